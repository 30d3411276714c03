use Rattle.std.proofs.Common.{◌∙◌, ap, set, sym, subst}
use Rattle.jsp_model.specs.declared.state.Session.{Session}
use Rattle.jsp_core.specs.Numbering.{IsAt, HasNone}
use Rattle.jsp_core.proofs.ByNumber.{none_changes}
use Rattle.jsp_core.proofs.Searching.{one_changes}
use Rattle.jsp_core.proofs.sessions.change_found.Goals as goal

pub returns-in-Ok : goal.returns-in-Ok
returns-in-Ok c =
    let sessions = c.args.sessions.now.items in
    let at = subst (λ w. IsAt w c.args.number c.in-Ok.place) c.as_slice.ensures.value c.in-Ok.ensures.found in
    ap (λ (k : Session). set sessions c.in-Ok.place k) c.change_one.ensures
    ∙ sym (one_changes sessions c.args.number c.args.version c.in-Ok.place c.index_mut.result.now c.requires at c.index_mut.ensures.value)

pub returns-in_default : goal.returns-in_default
returns-in_default c =
    let none = subst (λ w. HasNone w c.args.number) c.as_slice.ensures.value c.in_default.ensures.absent in
    sym (none_changes (λ (k : Session). k.number) c.args.number (λ (k : Session). record k { version = c.args.version }) c.args.sessions.now.items none)
