-- What is asked for is of one space.
use Rattle.std.proofs.Common.{◌≡◌, ℕ, Bool, true, false, ◌&&◌, ◌||◌, cond, List, [], ◌∷◌, length, map, refl, ap, sym, ◌∙◌, rules}
use Rattle.std.specs.Prelude.{filter, ◌==◌}
use Rattle.std.specs.List.{AllByRecursion, list_any}
use Rattle.std.proofs.lemmas.List.{length-map}
use Rattle.jsp_types.specs.declared.class.Class.{Class}
use Rattle.jsp_model.specs.declared.state.Row.{Row}
use Rattle.jsp_model.specs.declared.state.Blocked.{Blocked}
use Rattle.jsp_model.specs.declared.state.MatchSet.{MatchSet}
use Rattle.jsp_model.specs.Lookup.{is_caller}
use Rattle.jsp_sight.specs.Rows.{offered, held, shows}
use Rattle.jsp_decided.specs.declared.recorded.Recorded.{Recorded}
use Rattle.jsp_decided.specs.Recording.{rows_after, covers}
use Rattle.jsp_index.proofs.Covering.{eqb_eq}
use Rattle.jsp_decided.proofs.RowsAfter.{seen_after}
use Rattle.jsp_decided.proofs.Marks.{keys_after}
use Rattle.jsp_decided.proofs.Flat.{passes_later, passing_later}

pub in_within : (space : ℕ) (r : Row) → (r.space == space) ≡ true → r.space ≡ space
in_within space r is = eqb_eq r.space space is

pub changed_within : (x space : ℕ) (r : Row) → (r.space == space && (is_caller r.writer x || is_caller r.taker x)) ≡ true → r.space ≡ space
changed_within x space r is = let here : (r.space == space) ≡ true = search rules in eqb_eq r.space space here

pub offered_within : (classes : List Class) (b : Blocked) (r : Row) → offered classes b r ≡ true → r.space ≡ b.space
offered_within classes b r is = let here : (r.space == b.space) ≡ true = search rules in eqb_eq r.space b.space here

pub held_within : (classes : List Class) (b : Blocked) (r : Row) → held classes b r ≡ true → r.space ≡ b.space
held_within classes b r is = let here : (r.space == b.space) ≡ true = search rules in eqb_eq r.space b.space here

pub shown_within : (classes : List Class) (m : MatchSet) (r : Row) → shows classes m r ≡ true → r.space ≡ m.space
shown_within classes m r is = let here : (r.space == m.space) ≡ true = search rules in eqb_eq r.space m.space here

abbrev is_filled : List Row → Bool
is_filled [] = false
is_filled (r ∷ rows) = true

any_filled : (p : Row → Bool) (rows : List Row) → list_any p rows ≡ is_filled (filter p rows)
any_filled p [] = refl
any_filled p (r ∷ rows) = at (p r) (any_filled p rows) where
  at : (b : Bool) → list_any p rows ≡ is_filled (filter p rows) → (b || list_any p rows) ≡ is_filled (cond b (r ∷ filter p rows) (filter p rows))
  at true rest = refl
  at false rest = rest

pub any_two : (p : Row → Bool) (us vs : List Row) → filter p us ≡ filter p vs → list_any p us ≡ list_any p vs
any_two p us vs e = any_filled p us ∙ (ap is_filled e ∙ sym (any_filled p vs))

-- one passes later where one does now
pub any_seen : (p : Row → Bool) (space : ℕ) (within : (r : Row) → p r ≡ true → r.space ≡ space) (ds : List Recorded) (rows : List Row) → covers ds space ≡ false → list_any p rows ≡ list_any p (rows_after ds rows)
any_seen p space within ds rows none = any_two p rows (rows_after ds rows) (sym (seen_after p space within ds rows none))

pub count_later : (p : Row → Bool) (ds : List Recorded) (rows : List Row) → length (filter p (rows_after ds rows)) ≡ length (filter (passes_later p ds) rows)
count_later p ds rows =
    sym (length-map (filter p (rows_after ds rows)) (λ (r : Row). r.number))
    ∙ (ap (λ (w : List ℕ). length w) (passing_later (λ (r : Row). r.number) (λ ds r s is. (keys_after ds r s is).number) p ds rows) ∙ length-map (filter (passes_later p ds) rows) (λ (r : Row). r.number))
