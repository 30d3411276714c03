-- A space that was reset.
use Rattle.std.proofs.Common.{◌≡◌, ℕ, Bool, true, false, not, cond, ◌||◌, eqb, List, [], ◌∷◌, ◌++◌, Option, Some, None, refl, ap, sym, ◌∙◌, subst}
use Rattle.std.specs.Prelude.{filter, ◌==◌}
use Rattle.std.specs.List.{AllByRecursion, filter_map, cons_option}
use Rattle.std.proofs.lemmas.List.Sums.{fold-append}
use Rattle.std.proofs.lemmas.Bool.{eq-eqb}
use Rattle.jsp_model.specs.declared.state.Row.{Row}
use Rattle.jsp_index.proofs.Covering.{eqb_eq}
use Rattle.jsp_decided.specs.declared.recorded.Recorded.{Recorded}
use Rattle.jsp_decided.specs.declared.recorded.Recorded.TheVariants.{Decided, Reset}
use Rattle.jsp_decided.specs.Recording.{space_of, becomes, rows_after, resets as resets_it, is_cleared}
use Rattle.jsp_decided.proofs.RowsAfter.{fate_keys, all_after}

-- all rows of the space go
pub resets : (space : ℕ) (rows : List Row) → filter_map (becomes (Reset space)) rows ≡ filter (λ (r : Row). not (r.space == space)) rows
resets space [] = refl
resets space (r ∷ rows) = at (eqb r.space space) (resets space rows) where
  at : (b : Bool) → filter_map (becomes (Reset space)) rows ≡ filter (λ (r : Row). not (r.space == space)) rows
      → cons_option (cond b None (Some r)) (filter_map (becomes (Reset space)) rows) ≡ cond (not b) (r ∷ filter (λ (r : Row). not (r.space == space)) rows) (filter (λ (r : Row). not (r.space == space)) rows)
  at true rest = rest
  at false rest = ap (λ w. r ∷ w) rest

-- what is reset last is so after all that is recorded before
pub reset_after : (space : ℕ) (ds : List Recorded) (rows : List Row) → rows_after (ds ++ Reset space ∷ []) rows ≡ filter (λ (r : Row). not (r.space == space)) (rows_after ds rows)
reset_after space ds rows = fold-append (λ rows d. filter_map (becomes d) rows) rows ds (Reset space ∷ []) ∙ resets space (rows_after ds rows)

-- ---- a space of which a reset is recorded

module _ (space : ℕ) where
  abbrev pub IsElsewhere : Row → Type 0
  IsElsewhere r = eqb r.space space ≡ false

  abbrev pub AreElsewhere : List Row → Type 0
  AreElsewhere rows = AllByRecursion IsElsewhere rows

  none_left : (rows : List Row) → AreElsewhere (filter (λ (r : Row). not (r.space == space)) rows)
  none_left [] = tt
  none_left (r ∷ rows) = at (eqb r.space space) refl (none_left rows) where
    at : (b : Bool) → eqb r.space space ≡ b → AreElsewhere (filter (λ (r : Row). not (r.space == space)) rows) → AreElsewhere (cond (not b) (r ∷ filter (λ (r : Row). not (r.space == space)) rows) (filter (λ (r : Row). not (r.space == space)) rows))
    at true e rest = rest
    at false e rest = (e, rest)

  reset_here : (d : Recorded) (rows : List Row) → resets_it space d ≡ true → AreElsewhere (filter_map (becomes d) rows)
  reset_here (Decided d) rows is = absurd (cc)
  reset_here (Reset s) rows is = subst AreElsewhere (sym (resets s rows)) (subst (λ k. AreElsewhere (filter (λ (r : Row). not (r.space == k)) rows)) (sym (eqb_eq s space is)) (none_left rows))

  stay_elsewhere : (ds : List Recorded) (rows : List Row) → AreElsewhere rows → AreElsewhere (rows_after ds rows)
  stay_elsewhere ds rows h = all_after IsElsewhere (λ d r s e k. ap (λ n. eqb n space) (fate_keys d r s e).space ∙ k) ds rows h

  -- no row of the space is left
  pub is_empty : (ds : List Recorded) (rows : List Row) → is_cleared ds space ≡ true → AreElsewhere (rows_after ds rows)
  is_empty [] rows is = absurd (cc)
  is_empty (d ∷ ds) rows is = at (resets_it space d) refl is (is_empty ds (filter_map (becomes d) rows)) where
    at : (b : Bool) → resets_it space d ≡ b → (b || is_cleared ds space) ≡ true → (is_cleared ds space ≡ true → AreElsewhere (rows_after ds (filter_map (becomes d) rows))) → AreElsewhere (rows_after ds (filter_map (becomes d) rows))
    at true here k rest = stay_elsewhere ds (filter_map (becomes d) rows) (reset_here d rows here)
    at false away k rest = rest k

  -- so nothing is found there
  pub none_passes : (p : Row → Bool) → ((r : Row) → p r ≡ true → r.space ≡ space) → (rows : List Row) → AreElsewhere rows → filter p rows ≡ []
  none_passes p within [] h = refl
  none_passes p within (r ∷ rows) h = at (p r) refl (none_passes p within rows h.1) where
    at : (b : Bool) → p r ≡ b → filter p rows ≡ [] → cond b (r ∷ filter p rows) (filter p rows) ≡ []
    at true e rest = absurd (cc (eq-eqb r.space space (within r e), h.0))
    at false e rest = rest
