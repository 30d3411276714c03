use Rattle.std.proofs.Common.{◌≡◌, ℕ, Bool, false, Some, None, ap, sym, subst, ◌∙◌, arith, rules}
use Rattle.std.specs.Prelude.{nat_eq, option_and_then}
use Rattle.std.specs.List.{filter_map}
use Rattle.std.specs.HashMap.{get}
use Rattle.std.proofs.lemmas.Bool.{ne_eqb}
use Rattle.std.proofs.lemmas.Grind.{common_steps}
use Rattle.jsp_model.specs.declared.state.Row.{Row}
use Rattle.jsp_model.specs.Lookup.{is_caller}
use Rattle.jsp_model.specs.Changes.{aborted}
use Rattle.jsp_sight.specs.Rows.{undone}
use Rattle.jsp_table.proofs.Finding.{each}
use Rattle.jsp_index.specs.Changing.{revised_by}
use Rattle.jsp_index.specs.Holding.{lists, listed_in, is_in, IsHeld, AreHeld}
use Rattle.jsp_index.proofs.Holders.{aborted_is, unheld_undone, undone_held, undone_keys, undone_once, none_revised, held_revised, KeepsOthers}
use Rattle.jsp_index.proofs.hinted.HintedRows.abort.Goals as goal

pub returns-in_default : goal.returns-in_default
returns-in_default c =
    let holders = c.self.inside.holders in
    let x = c.args.x in
    let gone : Row → Bool = λ (r : Row). is_caller r.writer x in
    let changed : Row → Row = undone x in
    let rows = c.self.inside.rows in
    let none : get nat_eq holders x ≡ None = first_of (search rules, grind (arith, common_steps)) in
    let unlisted : (space n : ℕ) → lists holders x space n ≡ false = λ space n. ap (λ o. is_in (option_and_then (λ hs. listed_in hs space) o) n) none in
    let same : filter_map (revised_by gone changed) rows ≡ rows = none_revised (IsHeld holders) gone changed rows c.self.invariant (λ r h. unheld_undone holders x r h (unlisted r.space r.number)) in
    sym same ∙ (aborted_is x rows ∙ ap (aborted x) c.self.view_is)

pub revise_holdings-requires-clause-keys : goal.revise_holdings-requires-clause-keys
revise_holdings-requires-clause-keys c = λ r. undone_keys c.args.x r

pub revise_holdings-requires-clause-once : goal.revise_holdings-requires-clause-once
revise_holdings-requires-clause-once c = undone_once c.args.x

pub revise_holdings-requires-clause-listed : goal.revise_holdings-requires-clause-listed
revise_holdings-requires-clause-listed c =
    let holders = c.self.inside.holders in
    let x = c.args.x in
    let gone : Row → Bool = λ (r : Row). is_caller r.writer x in
    let changed : Row → Row = undone x in
    let hs = c.as_slice.result.now in
    let there : get nat_eq holders x ≡ Some hs = first_of (search rules, grind (arith, common_steps)) in
    each (IsHeld holders) (λ (r : Row). is_in (listed_in hs r.space) r.number ≡ false → revised_by gone changed r ≡ Some r) c.self.inside.rows c.self.invariant
    (λ r h none. unheld_undone holders x r h (ap (λ o. is_in (option_and_then (λ hs. listed_in hs r.space) o) r.number) there ∙ none))

pub invariant_of-self-2 : goal.invariant_of-self-2
invariant_of-self-2 c =
    let holders = c.self.inside.holders in
    let x = c.args.x in
    let gone : Row → Bool = λ (r : Row). is_caller r.writer x in
    let changed : Row → Row = undone x in
    let new = c.remove.new.self in
    let others : KeepsOthers holders new x = λ k space n ne h. ap (λ o. is_in (option_and_then (λ hs. listed_in hs space) o) n) (c.remove.ensures.updates.2 k (ne_eqb x k (λ e. ne (sym e)))) ∙ h in
    subst (AreHeld new) (sym c.revise_holdings.ensures) (held_revised holders new gone changed c.self.inside.rows (undone_held holders new x others) c.self.invariant)

pub returns : goal.returns
returns c = let x = c.args.x in c.revise_holdings.ensures ∙ (aborted_is x c.self.inside.rows ∙ ap (aborted x) c.self.view_is)
