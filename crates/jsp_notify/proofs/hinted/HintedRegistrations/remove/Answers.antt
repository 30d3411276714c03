use Rattle.std.proofs.Common.{List, sym, subst}
use Rattle.jsp_model.specs.declared.state.Registration.{Registration}
use Rattle.jsp_notify.specs.Waiting.{AreNamed}
use Rattle.jsp_notify.proofs.Listening.{one_less}
use Rattle.jsp_notify.proofs.hinted.HintedRegistrations.remove.Goals as goal

pub invariant_of-self : goal.invariant_of-self
invariant_of-self c =
    let self = c.self.inside in
    subst (λ (w : List Registration). AreNamed c.forget_gone.new.owed w) (sym c.remove.ensures)
    (one_less self.owed c.forget_gone.new.owed c.args.number self.registrations c.forget_gone.ensures c.self.invariant)
