use Rattle.std.proofs.Common.{◌≡◌, ◌==◌, ◌&&◌, ◌||◌, ◌∙◌, ℕ, List, Option, Some, None, not, true, false, length, option_map, ap, sym, subst, rules}
use Rattle.std.specs.Prelude.{find, is_some, IfSome, IfNone}
use Rattle.std.specs.List.{list_any, list_all}
use Rattle.jsp_model.specs.declared.state.Registration.{Registration}
use Rattle.jsp_notify.specs.declared.news.News.{News}
use Rattle.jsp_notify.specs.News.{all_told, hearing}
use Rattle.jsp_notify.proofs.Asked.{heard_of, none_heard_of, to_hear_of, none_to_hear_of, first_of_some, if_none, none_of_none, not_some}
use Rattle.jsp_notify.proofs.Told.{all_is_heard}
use Rattle.jsp_notify.proofs.registrations.Registrations.next_owed.Goals as goal

pub returns-then-is_some-clause-some : goal.returns-then-is_some-clause-some
returns-then-is_some-clause-some c =
    let self = c.self.inside.listeners in
    let owed = λ (rs : List Registration) (n : ℕ). list_any (λ r. r.number == n && (r.space == c.args.space && not (length r.owed == 0))) rs ≡ true in
    first_of_some c.first_owed-found.result (owed c.args.self.now)
    (λ n is. subst (λ (rs : List Registration). owed rs n) c.self.view_is (heard_of self.news c.args.space n self.heard (sym c.first_owed-found.ensures ∙ is)))

pub returns-then-is_some-clause-none : goal.returns-then-is_some-clause-none
returns-then-is_some-clause-none c =
    let some : is_some c.first_owed-found.result ≡ true = search rules in
    none_of_none c.first_owed-found.result _ some

pub returns-then-is_all_told-clause-none : goal.returns-then-is_all_told-clause-none
returns-then-is_all_told-clause-none c =
    let self = c.self.inside.listeners in
    let nobody : is_some c.first_owed-found.result ≡ false = search rules in
    let told : all_told self.news c.args.space ≡ true = ap (λ (ns : List News). all_told ns c.args.space) (sym c.as_slice-news.ensures) ∙ (sym c.is_all_told.ensures ∙ c.if-is_all_told.true) in
    subst (λ (rs : List Registration). list_all (λ r. not (r.space == c.args.space) || length r.owed == 0) rs ≡ true) c.self.view_is
    (none_heard_of self.news c.args.space self.heard
    (λ r here. all_is_heard self.news r (ap (all_told self.news) here ∙ told))
    (sym c.first_owed-found.ensures ∙ not_some c.first_owed-found.result nobody))

pub returns-clause-some : goal.returns-clause-some
returns-clause-some c =
    let self = c.self.inside.listeners in
    let owed = λ (rs : List Registration) (n : ℕ). list_any (λ r. r.number == n && (r.space == c.args.space && not (length r.owed == 0))) rs ≡ true in
    let found = c.first_number.ensures ∙ ap (λ (ns : List News). option_map (λ (r : Registration). r.number) (find (λ r. r.space == c.args.space && not (length (hearing ns r).owed == 0)) self.heard)) c.as_slice-news.ensures in
    first_of_some c.first_number.result (owed c.args.self.now)
    (λ n is. subst (λ (rs : List Registration). owed rs n) c.self.view_is (to_hear_of self.news c.args.space n self.heard (sym found ∙ is)))

pub returns-clause-none : goal.returns-clause-none
returns-clause-none c =
    let self = c.self.inside.listeners in
    let found = c.first_number.ensures ∙ ap (λ (ns : List News). option_map (λ (r : Registration). r.number) (find (λ r. r.space == c.args.space && not (length (hearing ns r).owed == 0)) self.heard)) c.as_slice-news.ensures in
    if_none c.first_number.result (list_all (λ r. not (r.space == c.args.space) || length r.owed == 0) c.args.self.now ≡ true)
    (λ is. subst (λ (rs : List Registration). list_all (λ r. not (r.space == c.args.space) || length r.owed == 0) rs ≡ true) c.self.view_is (none_to_hear_of self.news c.args.space self.heard (sym found ∙ is)))
