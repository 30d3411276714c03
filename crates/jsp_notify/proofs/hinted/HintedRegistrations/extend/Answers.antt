use Rattle.std.proofs.Common.{List, sym, subst}
use Rattle.jsp_model.specs.declared.state.Registration.{Registration}
use Rattle.jsp_notify.specs.Registered.{registration_ending}
use Rattle.jsp_notify.specs.Waiting.{AreNamed}
use Rattle.jsp_notify.proofs.Listening.{no_more_owed, same_owed}
use Rattle.jsp_notify.proofs.hinted.HintedRegistrations.extend.Goals as goal

pub invariant_of-self : goal.invariant_of-self
invariant_of-self c =
    let self = c.self.inside in
    let n = c.args.number in
    let end = c.args.end in
    subst (λ (w : List Registration). AreNamed self.owed w) (sym c.set_end.ensures)
    (no_more_owed self.owed (registration_ending n end) self.registrations (same_owed self.owed n end) c.self.invariant)
