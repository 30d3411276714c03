-- The ends of things, as the items of leases.
use Rattle.std.proofs.Common.{◌≡◌, ℕ, ◌+◌, ◌<◌, ◌≤◌, List, [], ◌∷◌, ◌++◌, length, take, drop, get_or, map, Option, ap, sym, ◌∙◌, arith}
use Rattle.std.specs.List.{AllByRecursion}
use Rattle.std.proofs.lemmas.List.{take_more, map-append}
use Rattle.jsp_lease.specs.declared.item.Item.{Item}
use Rattle.jsp_lease.specs.declared.item.Rank.{Rank}
use Rattle.jsp_lease.specs.Leases.{Leased}
use Rattle.jsp_table.specs.Finding.{AreNumbered}
use Rattle.jsp_table.specs.Places.{living}
use Rattle.jsp_table.proofs.Standing.{living_append, numbered_parts}
use Rattle.jsp_keyed.specs.Coming.{AreAbove, last_number}
use Rattle.jsp_keyed.specs.Kept.{item_of}

-- ---- several come

pub record IsPlacing (start now : Leased) (items : List Item) (i : ℕ) : Type 0 where
  pub items_so_far : now.items ≡ start.items ++ take i items
  pub above : AreAbove now.last (drop i items)
  pub room : length items ≤ now.room + i
  pub last : last_number now.last (drop i items) ≡ last_number start.last items

module _ {T : Type 0} (num : T → ℕ) (end_of : T → ℕ) (rank_of : Rank) where
  abbrev end : T → Item
  end x = item_of num end_of rank_of x

  -- ---- the ends of things rise

  rising_above : (low : ℕ) (xs : List T) → AllByRecursion (λ x. low < num x) xs → AreNumbered num xs → AreAbove low (map end xs)
  rising_above low [] h up = tt
  rising_above low (x ∷ xs) h up = (h.0, rising_above (num x) xs up.0 up.1)

  pub ends_above : (xs : List T) → AllByRecursion (λ x. 0 < num x) xs → AreNumbered num xs → AreAbove 0 (map end xs)
  ends_above xs h up = rising_above 0 xs h up

  last_below_it : (n low : ℕ) (xs : List T) → low < n → AllByRecursion (λ x. num x < n) xs → last_number low (map end xs) < n
  last_below_it n low [] lt h = lt
  last_below_it n low (x ∷ xs) lt h = last_below_it n (num x) xs h.0 h.1

  pub last_below : (n : ℕ) (xs : List T) → 0 < n → AllByRecursion (λ x. num x < n) xs → last_number 0 (map end xs) < n
  last_below n xs lt h = last_below_it n 0 xs lt h

  -- those that come rise above what the first is above
  pub come_above : (xs come : List T) (first : T) (n last : ℕ) → 1 ≤ length come → first ≡ get_or come 0 first → n ≡ num first → AreNumbered num (xs ++ come) → last < n → AreAbove last (map end come)
  come_above xs [] first n last some is e h lt = absurd (omega arith)
  come_above xs (x ∷ come) first n last some is e h lt =
      let up = (numbered_parts num xs (x ∷ come) h).0 in
      (less lt (e ∙ ap num is), rising_above (num x) come up.0 up.1) where
        less : {a b c : ℕ} → a < b → b ≡ c → a < c
        less p q = omega arith

  back : (xs ys : List T) → AllByRecursion (λ x. 0 < num x) (xs ++ ys) → AllByRecursion (λ x. 0 < num x) ys
  back [] ys h = h
  back (x ∷ xs) ys h = back xs ys h.1

  pub first_positive : (xs come : List T) (first : T) (n : ℕ) → 1 ≤ length come → first ≡ get_or come 0 first → n ≡ num first → AllByRecursion (λ x. 0 < num x) (xs ++ come) → 0 < n
  first_positive xs [] first n some is e h = absurd (omega arith)
  first_positive xs (x ∷ come) first n some is e h = more (back xs (x ∷ come) h).0 (e ∙ ap num is) where
    more : {a b : ℕ} → 0 < a → b ≡ a → 0 < b
    more p q = omega arith

  -- ---- the ends of the things that stand at places

  pub ended_more : (places : List (Option T)) (i : ℕ) (place : Option T) (items new : List Item) → i < length places → place ≡ get_or places i place → items ≡ map end (living (take i places)) → new ≡ items ++ map end (living (place ∷ []))
      → new ≡ map end (living (take (i + 1) places))
  ended_more places i place items new lt is so made =
      let more : take (i + 1) places ≡ take i places ++ place ∷ [] = take_more places i place lt ∙ ap (λ w. take i places ++ w ∷ []) (sym is) in
      made ∙ (ap (λ w. w ++ map end (living (place ∷ []))) so ∙ (sym (map-append end (living (take i places)) (living (place ∷ []))) ∙ ap (map end) (sym (ap living more ∙ living_append (take i places) (place ∷ [])))))
