use Rattle.std.proofs.Common.{◌∙◌, sym}
use Rattle.std.proofs.lemmas.Bool.{OnTrue_from}
use Rattle.jsp_model.specs.declared.state.Session.{Session}
use Rattle.jsp_core.specs.Numbering.{AreRising}
use Rattle.jsp_core.proofs.ByNumber.{rise_by_next}
use Rattle.jsp_core.proofs.sessions.are_rising.Goals as goal

pub returns : goal.returns
returns c =
    OnTrue_from c.each_below_next.result (AreRising c.args.sessions.now) (λ yes. rise_by_next (λ (k : Session). k.number) c.args.sessions.now (sym c.each_below_next.ensures ∙ yes))
