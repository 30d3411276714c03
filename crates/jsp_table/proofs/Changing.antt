-- The thing of one number changes.
use Rattle.std.proofs.Common.{◌≡◌, ℕ, zero, suc, ◌<◌, Bool, cond, eqb, List, [], ◌∷◌, length, set, Option, Some, None, option_map, Ok, inl, inr, refl, ap, sym, ◌∙◌, arith}
use Rattle.std.specs.Prelude.{map, slice_index}
use Rattle.std.proofs.lemmas.Bool.{cases_eq, eq-eqb, ne_eqb}
use Rattle.std.specs.List.Sorted.{IsBinarySearchResult}
use Rattle.std.specs.Ordering.{nat_cmp}
use Rattle.jsp_table.specs.Places.{living, place_at, AreKept}
use Rattle.jsp_table.proofs.Standing.{Picks, PicksNone, hit, only_place, set_kept, some_same}

module _ {T : Type 0} (p : T → Bool) (f : T → T) where
  abbrev at_it : T → T
  at_it x = cond (p x) (f x) x

  pub none_changed : (places : List (Option T)) → PicksNone p places → map at_it (living places) ≡ living places
  none_changed [] h = refl
  none_changed (None ∷ places) h = none_changed places (λ j thing is. h (suc j) thing is)
  none_changed (Some x ∷ places) h = rw (h zero x refl) (ap (λ w. x ∷ w) (none_changed places (λ j thing is. h (suc j) thing is)))

  eqb_suc : (j k : ℕ) → eqb (suc j) (suc k) ≡ eqb j k
  eqb_suc j k = elim (cases_eq j k) [
    | inl e ↦ eq-eqb (suc j) (suc k) (ap suc e) ∙ sym (eq-eqb j k e)
    | inr ne ↦ ne_eqb (suc j) (suc k) (λ e. ne (omega arith)) ∙ sym (ne_eqb j k ne)
  ]

  pub one_changed : (places : List (Option T)) (k : ℕ) → Picks p places k → living (set places k (option_map f (place_at places k))) ≡ map at_it (living places)
  one_changed [] k h = refl
  one_changed (None ∷ places) zero h = sym (none_changed places (λ j thing is. h (suc j) thing is ∙ ne_eqb (suc j) zero (λ e. omega arith)))
  one_changed (None ∷ places) (suc k) h = one_changed places k (λ j thing is. h (suc j) thing is ∙ eqb_suc j k)
  one_changed (Some x ∷ places) zero h =
      rw (h zero x refl ∙ eq-eqb zero zero refl) (ap (λ w. f x ∷ w) (sym (none_changed places (λ j thing is. h (suc j) thing is ∙ ne_eqb (suc j) zero (λ e. omega arith)))))
  one_changed (Some x ∷ places) (suc k) h = rw (h zero x refl ∙ ne_eqb zero (suc k) (λ e. omega arith)) (ap (λ w. x ∷ w) (one_changed places k (λ j thing is. h (suc j) thing is ∙ eqb_suc j k)))

module _ {T : Type 0} (num : T → ℕ) (f : T → T) where
  pub one_kept : ((x : T) → num (f x) ≡ num x) → (numbers : List ℕ) (places : List (Option T)) (number place : ℕ) → AreKept num numbers places → IsBinarySearchResult (λ y. nat_cmp y number) numbers (Ok place)
      → AreKept num numbers (set places place (option_map f (place_at places place)))
  one_kept keeps numbers places number place kept h =
      set_kept num numbers places place (option_map f (place_at places place)) kept (λ thing is. at (place_at places place) refl thing is) where
        same : {a b c : ℕ} → a ≡ b → c ≡ b → a ≡ c
        same e g = e ∙ sym g

        at : (o : Option T) → place_at places place ≡ o → (thing : T) → option_map f o ≡ Some thing → (place < length numbers) × (slice_index numbers place ≡ num thing)
        at None e thing is = absurd (cc)
        at (Some x) e thing is = let own = kept.at_its_number place x e in (own.0, same own.1 (sym (ap num (some_same is)) ∙ keeps x))

  pub one_done : (numbers : List ℕ) (places : List (Option T)) (number place : ℕ) → AreKept num numbers places → IsBinarySearchResult (λ y. nat_cmp y number) numbers (Ok place)
      → living (set places place (option_map f (place_at places place))) ≡ map (λ x. cond (eqb (num x) number) (f x) x) (living places)
  one_done numbers places number place kept h =
      let at = hit num numbers numbers places number place kept refl h in
      one_changed (λ x. eqb (num x) number) f places place (only_place num numbers places number place kept at.0 at.1)
