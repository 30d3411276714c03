-- A new number after all others, and the items once more, in places of their own.
use Rattle.std.proofs.Common.{◌≡◌, ℕ, zero, suc, ◌+◌, ◌-◌, ◌<◌, ◌≤◌, List, [], ◌∷◌, ◌++◌, length, set, get_or, replicate, Option, Some, None, inl, inr, refl, ap, sym, ◌∙◌, arith}
use Rattle.std.specs.Prelude.{map, slice_index}
use Rattle.std.specs.List.{All}
use Rattle.std.proofs.lemmas.Bool.{cases_eq, cases_lt}
use Rattle.std.proofs.lemmas.List.{get_or-set_same, get_or-set_other, get_or-map, length-set, length-map, length-append, length-replicate}
use Rattle.std.proofs.lemmas.List.Elements.{All-push, All-map}
use Rattle.jsp_lease.specs.declared.item.Item.{Item}
use Rattle.jsp_lease.specs.declared.item.Rank.TheVariants as rank
use Rattle.jsp_lease.specs.Leases.{Leased, AreNumbered, Adds}
use Rattle.jsp_lease.specs.Tournament.{living, node_at}
use Rattle.jsp_lease.specs.Places.{AreKept, AreRoomy}

abbrev pub number_of : Item → ℕ
number_of i = i.number

abbrev pub numbers_of : List Item → List ℕ
numbers_of items = map (λ (i : Item). i.number) items

-- ---- one item more

at_left : (xs : List ℕ) (n k : ℕ) → k < length xs → slice_index (xs ++ n ∷ []) k ≡ slice_index xs k
at_left [] n k lt = absurd (omega arith)
at_left (x ∷ xs) n zero lt = refl
at_left (x ∷ xs) n (suc k) lt = at_left xs n k (omega arith)

at_end : (xs : List ℕ) (n k : ℕ) → k ≡ length xs → slice_index (xs ++ n ∷ []) k ≡ n
at_end [] n zero e = refl
at_end [] n (suc k) e = absurd (omega arith)
at_end (x ∷ xs) n zero e = absurd (omega arith)
at_end (x ∷ xs) n (suc k) e = at_end xs n k (omega arith)

one_longer : (xs : List ℕ) (n : ℕ) → length (xs ++ n ∷ []) ≡ length xs + 1
one_longer xs n = length-append xs (n ∷ []) ∙ refl

more_rising : (numbers : List ℕ) (n last : ℕ) → ((i j : ℕ) → i < j → j < length numbers → slice_index numbers i < slice_index numbers j) → All (λ m. m ≤ last) numbers → last < n
    → (i j : ℕ) → i < j → j < length (numbers ++ n ∷ []) → slice_index (numbers ++ n ∷ []) i < slice_index (numbers ++ n ∷ []) j
more_rising numbers n last rising within later i j less lt = elim (cases_lt j (length numbers)) [
  | inl inside ↦ omega (arith, rising i j less inside, at_left numbers n i (omega arith), at_left numbers n j inside)
  | inr outside ↦ omega (arith, one_longer numbers n, at_left numbers n i (omega (arith, one_longer numbers n)), within i 0 (omega (arith, one_longer numbers n)), at_end numbers n j (omega (arith, one_longer numbers n)))
]

some_same : {a b : Item} → Some a ≡ Some b → a ≡ b
some_same e = cc

pub added_kept : (numbers : List ℕ) (places : List (Option Item)) (item : Item) (last : ℕ) → AreKept numbers places → All (λ m. m ≤ last) numbers → last < item.number → length numbers < length places
    → AreKept (numbers ++ item.number ∷ []) (set places (length numbers) (Some item))
added_kept numbers places item last kept within later room = record {
  fits = omega (arith, one_longer numbers item.number, length-set places (length numbers) (Some item));
  rising = more_rising numbers item.number last kept.rising within later;
  at_its_number = λ k other there. elim (cases_eq k (length numbers)) [
    | inl same ↦ new_one k other same (some_same (sym (get_or-set_same places (length numbers) (Some item) None room) ∙ (ap (λ i. node_at (set places (length numbers) (Some item)) i) (sym same) ∙ there)))
    | inr apart ↦ old_one k other (kept.at_its_number k other (sym (get_or-set_other places (length numbers) k (Some item) None apart) ∙ there))
  ];
} where
  new_one : (k : ℕ) (other : Item) → k ≡ length numbers → item ≡ other → (k < length (numbers ++ item.number ∷ [])) × (slice_index (numbers ++ item.number ∷ []) k ≡ other.number)
  new_one k other same e = (omega (arith, one_longer numbers item.number), at_end numbers item.number k same ∙ ap number_of e)

  old_one : (k : ℕ) (other : Item) → (k < length numbers) × (slice_index numbers k ≡ other.number) → (k < length (numbers ++ item.number ∷ [])) × (slice_index (numbers ++ item.number ∷ []) k ≡ other.number)
  old_one k other h = (omega (arith, h.0, one_longer numbers item.number), at_left numbers item.number k h.0 ∙ h.1)

none_living : (places : List (Option Item)) → ((j : ℕ) (item : Item) → node_at places j ≡ Some item → ⊥) → living places ≡ []
none_living [] h = refl
none_living (None ∷ places) h = none_living places (λ j item is. h (suc j) item is)
none_living (Some i ∷ places) h = absurd (h zero i refl)

-- the first place after all items gets one
added_living : (places : List (Option Item)) (k : ℕ) (item : Item) → k < length places → ((j : ℕ) (item : Item) → k ≤ j → node_at places j ≡ Some item → ⊥)
    → living (set places k (Some item)) ≡ living places ++ item ∷ []
added_living [] k item lt h = absurd (omega arith)
added_living (None ∷ places) zero item lt h = let none = none_living places (λ j other is. h (suc j) other (omega arith) is) in rw none refl
added_living (Some i ∷ places) zero item lt h = absurd (h zero i (omega arith) refl)
added_living (None ∷ places) (suc k) item lt h = added_living places k item (omega arith) (λ j other le is. h (suc j) other (omega arith) is)
added_living (Some i ∷ places) (suc k) item lt h = ap (λ w. i ∷ w) (added_living places k item (omega arith) (λ j other le is. h (suc j) other (omega arith) is))

pub added_items : (numbers : List ℕ) (places : List (Option Item)) (item : Item) → AreKept numbers places → length numbers < length places
    → living (set places (length numbers) (Some item)) ≡ living places ++ item ∷ []
added_items numbers places item kept room = added_living places (length numbers) item room (λ j other le is. too_far (kept.at_its_number j other is).0 le) where
  too_far : {j n : ℕ} → j < n → n ≤ j → ⊥
  too_far lt le = omega arith

pub added_within : (numbers : List ℕ) (n last : ℕ) → All (λ m. m ≤ last) numbers → last < n → All (λ m. m ≤ n) (numbers ++ n ∷ [])
added_within numbers n last within later = All-push (λ m. m ≤ n) numbers n (λ k d lt. up (within k d lt)) (omega arith) where
  up : {m : ℕ} → m ≤ last → m ≤ n
  up le = omega arith

-- ---- the numbers of the items

-- each item of the places has what each place's item has
living_all : (P : Item → Type 0) (places : List (Option Item)) → ((k : ℕ) (item : Item) → node_at places k ≡ Some item → P item) → All P (living places)
living_all P [] h k d lt = absurd (omega arith)
living_all P (None ∷ places) h k d lt = living_all P places (λ j item is. h (suc j) item is) k d lt
living_all P (Some i ∷ places) h zero d lt = h zero i refl
living_all P (Some i ∷ places) h (suc k) d lt = living_all P places (λ j item is. h (suc j) item is) k d (omega arith)

living_rising : (places : List (Option Item)) → ((i j : ℕ) (a b : Item) → i < j → node_at places i ≡ Some a → node_at places j ≡ Some b → a.number < b.number)
    → (i j : ℕ) (d e : Item) → i < j → j < length (living places) → number_of (get_or (living places) i d) < number_of (get_or (living places) j e)
living_rising [] h i j d e less lt = absurd (omega arith)
living_rising (None ∷ places) h i j d e less lt = living_rising places (λ i j a b l p q. h (suc i) (suc j) a b (omega arith) p q) i j d e less lt
living_rising (Some x ∷ places) h i zero d e less lt = absurd (omega arith)
living_rising (Some x ∷ places) h zero (suc j) d e less lt = living_all (λ (b : Item). x.number < b.number) places (λ k b q. h zero (suc k) x b (omega arith) refl q) j e (omega arith)
living_rising (Some x ∷ places) h (suc i) (suc j) d e less lt = living_rising places (λ i j a b l p q. h (suc i) (suc j) a b (omega arith) p q) i j d e (omega arith) (omega arith)

kept_rising : (numbers : List ℕ) (places : List (Option Item)) → AreKept numbers places → (i j : ℕ) (d e : Item) → i < j → j < length (living places) → number_of (get_or (living places) i d) < number_of (get_or (living places) j e)
kept_rising numbers places kept = living_rising places (λ i j a b less p q. between (kept.rising i j less (kept.at_its_number j b q).0) (kept.at_its_number i a p).1 (kept.at_its_number j b q).1) where
  between : {a b c d : ℕ} → a < b → a ≡ c → b ≡ d → c < d
  between h p q = omega arith

nothing : Item
nothing = record { end = 0; rank = rank.Entry; number = 0 }

numbers_at : (items : List Item) (k : ℕ) → k < length items → slice_index (numbers_of items) k ≡ number_of (get_or items k nothing)
numbers_at items k lt = get_or-map number_of items k nothing 0 lt

count_same : (items : List Item) → length (numbers_of items) ≡ length items
count_same items = length-map items number_of

pub numbers_rising : (numbers : List ℕ) (places : List (Option Item)) → AreKept numbers places → (i j : ℕ) → i < j → j < length (numbers_of (living places)) → slice_index (numbers_of (living places)) i < slice_index (numbers_of (living places)) j
numbers_rising numbers places kept i j less lt =
    let items = living places in
    let inside : j < length items = omega (arith, count_same items) in
    let less_there = kept_rising numbers places kept i j nothing nothing less inside in
    omega (arith, less_there, numbers_at items i (omega arith), numbers_at items j inside)

pub items_within : (numbers : List ℕ) (places : List (Option Item)) (last : ℕ) → AreKept numbers places → All (λ m. m ≤ last) numbers → All (λ (i : Item). i.number ≤ last) (living places)
items_within numbers places last kept within = living_all (λ i. i.number ≤ last) places (λ k item is. at_most (kept.at_its_number k item is).1 (within k 0 (kept.at_its_number k item is).0)) where
  at_most : {a b : ℕ} → a ≡ b → a ≤ last → b ≤ last
  at_most e le = omega arith

pub are_numbered : (numbers : List ℕ) (places : List (Option Item)) (last room : ℕ) → AreKept numbers places → All (λ m. m ≤ last) numbers → AreNumbered (record { items = living places; last = last; room = room })
are_numbered numbers places last room kept within = record {
  rising = λ k lt. numbers_rising numbers places kept k (k + 1) (omega arith) lt;
  within = items_within numbers places last kept within;
}

-- ---- the items in places of their own, and empty ones after them

abbrev pub row_of : List Item → ℕ → List (Option Item)
row_of items empty = map Some items ++ replicate empty None

none_there : (empty k : ℕ) → node_at (replicate empty None) k ≡ None
none_there zero k = refl
none_there (suc empty) zero = refl
none_there (suc empty) (suc k) = none_there empty k

empty_living : (empty : ℕ) → living (replicate empty None) ≡ []
empty_living zero = refl
empty_living (suc empty) = empty_living empty

pub row_living : (items : List Item) (empty : ℕ) → living (row_of items empty) ≡ items
row_living [] empty = empty_living empty
row_living (x ∷ items) empty = ap (λ w. x ∷ w) (row_living items empty)

row_there : (items : List Item) (empty k : ℕ) (item : Item) → node_at (row_of items empty) k ≡ Some item → (k < length (numbers_of items)) × (slice_index (numbers_of items) k ≡ item.number)
row_there [] empty k item there = absurd (cc (none_there empty k))
row_there (x ∷ items) empty zero item there = (omega arith, ap number_of (some_same there))
row_there (x ∷ items) empty (suc k) item there =
    let rest = row_there items empty k item there in
    (omega (arith, rest.0), rest.1)

row_length : (items : List Item) (empty : ℕ) → length (row_of items empty) ≡ length items + empty
row_length items empty = length-append (map Some items) (replicate empty None) ∙ cc (length-map items Some, length-replicate {A = Option Item} empty None)

-- a copy of the living, under the same numbers
pub row_kept : (numbers ns : List ℕ) (places row : List (Option Item)) (items : List Item) (last empty capacity : ℕ) → AreKept numbers places → All (λ m. m ≤ last) numbers
    → items ≡ living places → ns ≡ numbers_of items → row ≡ row_of items empty → length items + empty ≤ capacity → AreRoomy ns row last capacity
row_kept numbers ns places row items last empty capacity kept within is named made fits =
    rw (named, made, is) (copy_kept (length (living places)) (ap length is) fits) where
      copy_kept : (n : ℕ) → length items ≡ n → length items + empty ≤ capacity → AreRoomy (numbers_of (living places)) (row_of (living places) empty) last capacity
      copy_kept n e fits = record {
        kept = record {
          fits = omega (arith, count_same (living places), row_length (living places) empty);
          rising = numbers_rising numbers places kept;
          at_its_number = row_there (living places) empty;
        };
        within = All-map (λ m. m ≤ last) number_of (living places) (items_within numbers places last kept within);
        room = omega (arith, ap length is, row_length (living places) empty);
      }

pub row_room : (ns : List ℕ) (row : List (Option Item)) (items : List Item) (empty : ℕ) → ns ≡ numbers_of items → row ≡ row_of items empty → length row - length ns ≡ empty
row_room ns row items empty named made = omega (arith, ap length named, ap length made, count_same items, row_length items empty)

pub added_roomy : (numbers ns : List ℕ) (places row : List (Option Item)) (item : Item) (place last capacity more : ℕ) → AreRoomy numbers places last capacity → last < item.number → place ≡ length numbers → place < length places
    → ns ≡ numbers ++ item.number ∷ [] → row ≡ set places place (Some item) → capacity ≤ more → AreRoomy ns row item.number more
added_roomy numbers ns places row item place last capacity more h later at room longer put le =
    rw (longer, put, at) (record {
      kept = added_kept numbers places item last h.kept h.within later (omega arith);
      within = added_within numbers item.number last h.within later;
      room = omega (arith, h.room, length-set places (length numbers) (Some item));
    })

-- what a reader sees once an item is added
pub added_seen : (numbers ns : List ℕ) (places row : List (Option Item)) (item : Item) (place last capacity : ℕ) (old : Leased) → AreRoomy numbers places last capacity → place ≡ length numbers → place < length places
    → ns ≡ numbers ++ item.number ∷ [] → row ≡ set places place (Some item) → living places ≡ old.items → old.room ≤ length places - length numbers
    → Adds old item (record { items = living row; last = item.number; room = length row - length ns })
added_seen numbers ns places row item place last capacity old h at room longer put was le = record {
  items = ap living put ∙ (ap (λ k. living (set places k (Some item))) at ∙ (added_items numbers places item h.kept (omega arith) ∙ ap (λ w. w ++ item ∷ []) was));
  last = refl;
  room = omega (arith, ap length longer, ap length put, one_longer numbers item.number, length-set places place (Some item));
}
