use Rattle.std.proofs.Common.{List, sym, subst}
use Rattle.jsp_model.specs.declared.state.Registration.{Registration}
use Rattle.jsp_keyed.specs.Changing.{where_passed}
use Rattle.jsp_notify.specs.Owing.{owed_less}
use Rattle.jsp_notify.specs.Waiting.{AreNamed}
use Rattle.jsp_notify.proofs.Keyed.{news_of}
use Rattle.jsp_notify.proofs.Listening.{no_more_owed, less_owed}
use Rattle.jsp_notify.proofs.Owed.{hears}
use Rattle.jsp_notify.proofs.hinted.HintedRegistrations.forgive.Goals as goal

pub change_all-requires-clause-seeks : goal.change_all-requires-clause-seeks
change_all-requires-clause-seeks c = λ seed r h. news_of seed c.args.classes.now c.args.caller c.args.row.now r h

pub invariant_of-self : goal.invariant_of-self
invariant_of-self c =
    let self = c.self.inside in
    let news = hears c.args.classes.now c.args.caller c.args.row.now in
    subst (λ (w : List Registration). AreNamed self.owed w) (sym c.change_all.ensures)
    (no_more_owed self.owed (where_passed news owed_less) self.registrations (less_owed self.owed news) c.self.invariant)
