use Rattle.std.proofs.Common.{◌≡◌, ◌&&◌, ◌∙◌, Bool, true, List, map, ap, sym, subst}
use Rattle.jsp_model.specs.declared.state.Registration.{Registration}
use Rattle.jsp_keyed.proofs.Walking.{and_both}
use Rattle.jsp_notify.specs.Owing.{is_news, is_within, owed_within}
use Rattle.jsp_notify.specs.Waiting.{AreNamed}
use Rattle.jsp_notify.proofs.Keyed.{news_of}
use Rattle.jsp_notify.proofs.Listening.{still_named, more_named, listeners_named}
use Rattle.jsp_notify.proofs.Owed.{within_owed}
use Rattle.jsp_notify.proofs.hinted.HintedRegistrations.owe_within.Goals as goal

pub passing-requires : goal.passing-requires
passing-requires c = λ seed r h. news_of seed c.args.classes.now c.args.caller c.args.row.now r (and_both (is_within c.args.range.from c.args.range.below r) (is_news c.args.classes.now c.args.caller r c.args.row.now) h).1

pub invariant_of-self : goal.invariant_of-self
invariant_of-self c =
    let self = c.self.inside in
    still_named self.owed c.name_listeners.new.owed self.registrations c.name_listeners.ensures.keeps c.self.invariant

pub try_change_named-requires-clause-seeks : goal.try_change_named-requires-clause-seeks
try_change_named-requires-clause-seeks c = λ seed r h. news_of seed c.args.classes.now c.args.caller c.args.row.now r (and_both (is_within c.args.range.from c.args.range.below r) (is_news c.args.classes.now c.args.caller r c.args.row.now) h).1

pub invariant_of-self-in_err-try_change_named : goal.invariant_of-self-in_err-try_change_named
invariant_of-self-in_err-try_change_named c =
    let self = c.self.inside in
    let new = c.name_listeners.new.owed in
    subst (λ (w : List Registration). AreNamed new w) (sym c.in_err-try_change_named.ensures.err) (still_named self.owed new self.registrations c.name_listeners.ensures.keeps c.self.invariant)

pub invariant_of-self-2 : goal.invariant_of-self-2
invariant_of-self-2 c =
    let self = c.self.inside in
    let new = c.name_listeners.new.owed in
    let news = λ (r : Registration). is_news c.args.classes.now c.args.caller r c.args.row.now in
    let within = λ (r : Registration). is_within c.args.range.from c.args.range.below r in
    let hears = λ (r : Registration). within r && news r in
    let named = listeners_named new c.args.classes.now c.args.caller c.args.row.now hears c.in_ok-listeners.listeners self.registrations (λ r e. (and_both (within r) (news r) e).1) c.passing.ensures.positive c.in_ok-listeners.ensures.named c.in_ok-name_listeners.ensures.ok in
    subst (λ (w : List Registration). AreNamed new w) (sym c.in_ok-try_change_named.ensures.ok)
    (more_named self.owed new hears c.args.row.now.number self.registrations c.name_listeners.ensures.keeps named c.self.invariant)

pub returns-clause-ok : goal.returns-clause-ok
returns-clause-ok c =
    let owed = owed_within c.args.classes.now c.args.caller c.args.row.now c.args.range.from c.args.range.below in
    c.in_ok-try_change_named.ensures.ok
    ∙ (within_owed c.args.classes.now c.args.caller c.args.row.now c.args.range.from c.args.range.below c.self.inside.registrations ∙ ap (map owed) c.self.view_is)
