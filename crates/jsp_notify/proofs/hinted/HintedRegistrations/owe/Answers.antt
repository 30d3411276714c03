use Rattle.std.proofs.Common.{List, sym, subst}
use Rattle.jsp_model.specs.declared.state.Registration.{Registration}
use Rattle.jsp_notify.specs.Owing.{is_news}
use Rattle.jsp_notify.specs.Waiting.{AreNamed}
use Rattle.jsp_notify.proofs.Keyed.{news_of}
use Rattle.jsp_notify.proofs.Listening.{still_named, owed_named, listeners_named}
use Rattle.jsp_notify.proofs.hinted.HintedRegistrations.owe.Goals as goal

pub passing-requires : goal.passing-requires
passing-requires c = λ seed r h. news_of seed c.args.classes.now c.args.caller c.args.row.now r h

pub try_change_named-requires-clause-seeks : goal.try_change_named-requires-clause-seeks
try_change_named-requires-clause-seeks c = λ seed r h. news_of seed c.args.classes.now c.args.caller c.args.row.now r h

pub invariant_of-self-in_err-try_change_named : goal.invariant_of-self-in_err-try_change_named
invariant_of-self-in_err-try_change_named c =
    let self = c.self.inside in
    let new = c.name_listeners.new.owed in
    subst (λ (w : List Registration). AreNamed new w) (sym c.in_err-try_change_named.ensures.err) (still_named self.owed new self.registrations c.name_listeners.ensures.keeps c.self.invariant)

pub invariant_of-self-2 : goal.invariant_of-self-2
invariant_of-self-2 c =
    let self = c.self.inside in
    let new = c.name_listeners.new.owed in
    let named = listeners_named new c.args.classes.now c.args.caller c.args.row.now (λ r. is_news c.args.classes.now c.args.caller r c.args.row.now) c.in_ok-listeners.listeners self.registrations (λ r e. e) c.passing.ensures.positive c.in_ok-listeners.ensures.named c.in_ok-name_listeners.ensures.ok in
    subst (λ (w : List Registration). AreNamed new w) (sym c.in_ok-try_change_named.ensures.ok)
    (owed_named self.owed new c.args.classes.now c.args.caller c.args.row.now self.registrations c.name_listeners.ensures.keeps named c.self.invariant)
