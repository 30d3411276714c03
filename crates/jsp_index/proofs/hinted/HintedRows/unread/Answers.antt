use Rattle.std.proofs.Common.{◌≡◌, ℕ, Bool, false, Some, None, ap, sym, subst, ◌∙◌, arith, rules}
use Rattle.std.specs.List.{filter_map}
use Rattle.std.proofs.lemmas.Grind.{common_steps}
use Rattle.jsp_model.specs.declared.state.Row.{Row}
use Rattle.jsp_model.specs.Changes.{release}
use Rattle.jsp_sight.specs.Rows.{released_row}
use Rattle.jsp_table.specs.Numbers.{contains}
use Rattle.jsp_table.proofs.Finding.{each}
use Rattle.jsp_index.specs.Changing.{revised_by}
use Rattle.jsp_index.specs.Holding.{listed, lists, is_in, IsHeld, AreHeld}
use Rattle.jsp_index.proofs.Holders.{released_is, not_released, unheld_released, released_held, released_keys, none_revised, held_revised}
use Rattle.jsp_index.proofs.hinted.HintedRows.unread.Goals as goal

pub returns-then-not-is_not_changed : goal.returns-then-not-is_not_changed
returns-then-not-is_not_changed c = not_released c.args.vote c.args.x c.args.space c.args.self.now (sym c.is_not_changed.ensures ∙ c.if-not-is_not_changed.true)

pub returns-in_default : goal.returns-in_default
returns-in_default c =
    let holders = c.self.inside.holders in
    let x = c.args.x in
    let gone : Row → Bool = λ _. false in
    let changed : Row → Row = released_row c.args.vote x c.args.space in
    let rows = c.self.inside.rows in
    let none : listed holders x c.args.space ≡ None = first_of (search rules, grind (arith, common_steps)) in
    let unlisted : (n : ℕ) → lists holders x c.args.space n ≡ false = λ n. ap (λ o. is_in o n) none in
    let same : filter_map (revised_by gone changed) rows ≡ rows = none_revised (IsHeld holders) gone changed rows c.self.invariant (λ r h. unheld_released holders c.args.vote x c.args.space r h (unlisted r.number)) in
    sym c.self.view_is ∙ (sym same ∙ (released_is c.args.vote x c.args.space rows ∙ ap (release c.args.vote x c.args.space) c.self.view_is))

pub revise_all-requires-clause-keys : goal.revise_all-requires-clause-keys
revise_all-requires-clause-keys c = λ r. released_keys c.args.vote c.args.x c.args.space r

pub revise_all-requires-clause-named : goal.revise_all-requires-clause-named
revise_all-requires-clause-named c =
    let holders = c.self.inside.holders in
    let x = c.args.x in
    let gone : Row → Bool = λ _. false in
    let changed : Row → Row = released_row c.args.vote x c.args.space in
    let ns = c.in-Some.numbers.now in
    let there : listed holders x c.args.space ≡ Some ns = first_of (search rules, grind (arith, common_steps)) in
    each (IsHeld holders) (λ (r : Row). contains ns r.number ≡ false → revised_by gone changed r ≡ Some r) c.self.inside.rows c.self.invariant
    (λ r h none. unheld_released holders c.args.vote x c.args.space r h (ap (λ o. is_in o r.number) there ∙ none))

pub invariant_of-self : goal.invariant_of-self
invariant_of-self c =
    let holders = c.self.inside.holders in
    let x = c.args.x in
    let gone : Row → Bool = λ _. false in
    let changed : Row → Row = released_row c.args.vote x c.args.space in
    subst (AreHeld holders) (sym c.revise_all.ensures) (held_revised holders holders gone changed c.self.inside.rows (λ r e h. released_held holders c.args.vote x c.args.space r h) c.self.invariant)

pub returns : goal.returns
returns c = let x = c.args.x in c.revise_all.ensures ∙ (released_is c.args.vote x c.args.space c.self.inside.rows ∙ ap (release c.args.vote x c.args.space) c.self.view_is)
