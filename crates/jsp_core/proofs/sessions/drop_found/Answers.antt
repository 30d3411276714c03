use Rattle.std.proofs.Common.{◌∙◌, sym, subst}
use Rattle.jsp_model.specs.declared.state.Session.{Session}
use Rattle.jsp_core.specs.Numbering.{IsAt, HasNone}
use Rattle.jsp_core.proofs.ByNumber.{none_goes}
use Rattle.jsp_core.proofs.Searching.{one_goes}
use Rattle.jsp_core.proofs.sessions.drop_found.Goals as goal

pub returns-in-Ok : goal.returns-in-Ok
returns-in-Ok c =
    let at = subst (λ w. IsAt w c.args.number c.in-Ok.place) c.as_slice.ensures.value c.in-Ok.ensures.found in
    c.remove.ensures.items ∙ sym (one_goes c.args.sessions.now.items c.args.number c.in-Ok.place c.requires at)

pub returns-in_default : goal.returns-in_default
returns-in_default c =
    let none = subst (λ w. HasNone w c.args.number) c.as_slice.ensures.value c.in_default.ensures.absent in
    sym (none_goes (λ (k : Session). k.number) c.args.number c.args.sessions.now.items none)
