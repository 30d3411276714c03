use Rattle.std.proofs.Common.{◌∙◌, List, ap, map, sym, subst}
use Rattle.jsp_model.specs.declared.state.Registration.{Registration}
use Rattle.jsp_notify.specs.Registered.{telling}
use Rattle.jsp_notify.specs.Waiting.{AreNamed}
use Rattle.jsp_notify.proofs.Listening.{no_more_owed, told_less}
use Rattle.jsp_notify.proofs.Telling.{told_exactly}
use Rattle.jsp_notify.proofs.hinted.HintedRegistrations.tell.Goals as goal

pub forget_told-requires : goal.forget_told-requires
forget_told-requires c =
    let self = c.self.inside in
    let n = c.args.number in
    subst (λ (w : List Registration). AreNamed self.owed w) (sym c.change.ensures)
    (no_more_owed self.owed (telling n) self.registrations (told_less self.owed n) c.self.invariant)

pub returns : goal.returns
returns c = c.change.ensures ∙ (ap (map (telling c.args.number)) c.self.view_is ∙ told_exactly c.args.number c.args.self.now c.requires)
