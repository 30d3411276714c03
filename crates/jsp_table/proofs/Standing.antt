-- What becomes of the things when one place is emptied, filled or added.
use Rattle.std.proofs.Common.{◌≡◌, ◌≢◌, ℕ, zero, suc, ◌+◌, ◌-◌, ◌<◌, ◌≤◌, Bool, true, false, not, eqb, List, [], ◌∷◌, ◌++◌, length, set, take, get_or, Option, Some, None, Ok, Err, inl, inr, ◌⊎◌, refl, ap, sym, ◌∙◌, subst, arith, length-append, append_assoc}
use Rattle.std.specs.Prelude.{map, filter, find, slice_index, is_some}
use Rattle.std.specs.List.{AllByRecursion}
use Rattle.std.proofs.lemmas.Bool.{cases_eq, cases_lt, eq-eqb, ne_eqb, cases_order}
use Rattle.std.proofs.lemmas.List.{append-nil as append_nil, length-set, length-map, get_or-set_same, get_or-set_other}
use Rattle.std.specs.List.Sorted.{IsBinarySearchResult}
use Rattle.std.specs.Ordering.{nat_cmp}
use Rattle.jsp_table.specs.Finding.{numbered, without, AreNumbered}
use Rattle.jsp_table.specs.Places.{living, place_at, AreKept, HaveNumbers, AreOver}
use Rattle.jsp_table.proofs.Rising.{found_there, found_between}

pub some_same : {T : Type 0} {a b : T} → Some a ≡ Some b → a ≡ b
some_same e = cc

module _ {T : Type 0} (p : T → Bool) where
  -- the test picks the place k alone
  abbrev pub Picks : List (Option T) → ℕ → Type 0
  Picks places k = (j : ℕ) (thing : T) → place_at places j ≡ Some thing → p thing ≡ eqb j k

  abbrev pub PicksNone : List (Option T) → Type 0
  PicksNone places = (j : ℕ) (thing : T) → place_at places j ≡ Some thing → p thing ≡ false

  after : (place : Option T) (places : List (Option T)) (k : ℕ) → Picks (place ∷ places) (suc k) → Picks places k
  after place places k h j thing is = h (suc j) thing is ∙ eqb_suc j k where
    eqb_suc : (j k : ℕ) → eqb (suc j) (suc k) ≡ eqb j k
    eqb_suc j k = elim (cases_eq j k) [
      | inl e ↦ eq-eqb (suc j) (suc k) (ap suc e) ∙ sym (eq-eqb j k e)
      | inr ne ↦ ne_eqb (suc j) (suc k) (λ e. ne (omega arith)) ∙ sym (ne_eqb j k ne)
    ]

  after_none : (place : Option T) (places : List (Option T)) → PicksNone (place ∷ places) → PicksNone places
  after_none place places h j thing is = h (suc j) thing is

  none_after : (place : Option T) (places : List (Option T)) → Picks (place ∷ places) zero → PicksNone places
  none_after place places h j thing is = h (suc j) thing is ∙ ne_eqb (suc j) zero (λ e. omega arith)

  at_first : (thing : T) (places : List (Option T)) → Picks (Some thing ∷ places) zero → p thing ≡ true
  at_first thing places h = h zero thing refl ∙ eq-eqb zero zero refl

  not_first : (thing : T) (places : List (Option T)) (k : ℕ) → Picks (Some thing ∷ places) (suc k) → p thing ≡ false
  not_first thing places k h = h zero thing refl ∙ ne_eqb zero (suc k) (λ e. omega arith)

  pub none_found : (places : List (Option T)) → PicksNone places → find p (living places) ≡ None
  none_found [] h = refl
  none_found (None ∷ places) h = none_found places (after_none None places h)
  none_found (Some i ∷ places) h = rw (h zero i refl) (none_found places (after_none (Some i) places h))

  pub none_left : (places : List (Option T)) → PicksNone places → filter (λ i. not (p i)) (living places) ≡ living places
  none_left [] h = refl
  none_left (None ∷ places) h = none_left places (after_none None places h)
  none_left (Some i ∷ places) h = rw (h zero i refl) (ap (λ w. i ∷ w) (none_left places (after_none (Some i) places h)))

  pub found : (places : List (Option T)) (k : ℕ) → Picks places k → find p (living places) ≡ place_at places k
  found [] k h = refl
  found (None ∷ places) zero h = none_found places (none_after None places h)
  found (None ∷ places) (suc k) h = found places k (after None places k h)
  found (Some i ∷ places) zero h = rw (at_first i places h) refl
  found (Some i ∷ places) (suc k) h = rw (not_first i places k h) (found places k (after (Some i) places k h))

  pub emptied : (places : List (Option T)) (k : ℕ) → Picks places k → living (set places k None) ≡ filter (λ i. not (p i)) (living places)
  emptied [] k h = refl
  emptied (None ∷ places) zero h = sym (none_left places (none_after None places h))
  emptied (None ∷ places) (suc k) h = emptied places k (after None places k h)
  emptied (Some i ∷ places) zero h = rw (at_first i places h) (sym (none_left places (none_after (Some i) places h)))
  emptied (Some i ∷ places) (suc k) h = rw (not_first i places k h) (ap (λ w. i ∷ w) (emptied places k (after (Some i) places k h)))

module _ {T : Type 0} where
  pub living_append : (xs ys : List (Option T)) → living (xs ++ ys) ≡ living xs ++ living ys
  living_append [] ys = refl
  living_append (None ∷ xs) ys = living_append xs ys
  living_append (Some x ∷ xs) ys = ap (λ w. x ∷ w) (living_append xs ys)

  pub living_some : (xs : List T) → living (map Some xs) ≡ xs
  living_some [] = refl
  living_some (x ∷ xs) = ap (λ w. x ∷ w) (living_some xs)

  pub filtered : (xs : List (Option T)) → filter is_some xs ≡ map Some (living xs)
  filtered [] = refl
  filtered (None ∷ xs) = filtered xs
  filtered (Some x ∷ xs) = ap (λ w. Some x ∷ w) (filtered xs)

  pub place_left : (xs : List (Option T)) (y : Option T) (k : ℕ) → k < length xs → place_at (xs ++ y ∷ []) k ≡ place_at xs k
  place_left [] y k lt = absurd (omega arith)
  place_left (x ∷ xs) y zero lt = refl
  place_left (x ∷ xs) y (suc k) lt = place_left xs y k (omega arith)

  pub place_end : (xs : List (Option T)) (y : Option T) (k : ℕ) → k ≡ length xs → place_at (xs ++ y ∷ []) k ≡ y
  place_end [] y zero e = refl
  place_end [] y (suc k) e = absurd (omega arith)
  place_end (x ∷ xs) y zero e = absurd (omega arith)
  place_end (x ∷ xs) y (suc k) e = place_end xs y k (omega arith)

  pub place_far : (xs : List (Option T)) (k : ℕ) → length xs ≤ k → place_at xs k ≡ None
  place_far [] k le = refl
  place_far (x ∷ xs) zero le = absurd (omega arith)
  place_far (x ∷ xs) (suc k) le = place_far xs k (omega arith)

  -- what is so at each place is so of each thing
  pub living_all : (P : T → Type 0) (places : List (Option T)) → ((k : ℕ) (thing : T) → place_at places k ≡ Some thing → P thing) → AllByRecursion P (living places)
  living_all P [] h = tt
  living_all P (None ∷ places) h = living_all P places (λ j thing is. h (suc j) thing is)
  living_all P (Some i ∷ places) h = (h zero i refl, living_all P places (λ j thing is. h (suc j) thing is))

at_left : (xs : List ℕ) (n k : ℕ) → k < length xs → slice_index (xs ++ n ∷ []) k ≡ slice_index xs k
at_left [] n k lt = absurd (omega arith)
at_left (x ∷ xs) n zero lt = refl
at_left (x ∷ xs) n (suc k) lt = at_left xs n k (omega arith)

at_end : (xs : List ℕ) (n k : ℕ) → k ≡ length xs → slice_index (xs ++ n ∷ []) k ≡ n
at_end [] n zero e = refl
at_end [] n (suc k) e = absurd (omega arith)
at_end (x ∷ xs) n zero e = absurd (omega arith)
at_end (x ∷ xs) n (suc k) e = at_end xs n k (omega arith)

one_longer : (xs : List ℕ) (n : ℕ) → length (xs ++ n ∷ []) ≡ length xs + 1
one_longer xs n = length-append xs (n ∷ []) ∙ refl

module _ {T : Type 0} (num : T → ℕ) where
  rising_things : (places : List (Option T)) → ((i j : ℕ) (a b : T) → i < j → place_at places i ≡ Some a → place_at places j ≡ Some b → num a < num b) → AreNumbered num (living places)
  rising_things [] h = tt
  rising_things (None ∷ places) h = rising_things places (λ i j a b l p q. h (suc i) (suc j) a b (omega arith) p q)
  rising_things (Some x ∷ places) h =
      (living_all (λ b. num x < num b) places (λ k b q. h zero (suc k) x b (omega arith) refl q), rising_things places (λ i j a b l p q. h (suc i) (suc j) a b (omega arith) p q))

  pub kept_numbered : (numbers : List ℕ) (places : List (Option T)) → AreKept num numbers places → AreNumbered num (living places)
  kept_numbered numbers places kept = rising_things places (λ i j a b less p q. between (kept.rising i j less (kept.at_its_number j b q).0) (kept.at_its_number i a p).1 (kept.at_its_number j b q).1) where
    between : {a b c d : ℕ} → a < b → a ≡ c → b ≡ d → c < d
    between h p q = omega arith

  -- the place of a number is the only one that has it
  pub only_place : (numbers : List ℕ) (places : List (Option T)) (number place : ℕ) → AreKept num numbers places → place < length numbers → slice_index numbers place ≡ number
      → Picks (λ x. eqb (num x) number) places place
  only_place numbers places number place kept lt is k thing there =
      let own = kept.at_its_number k thing there in
      elim (cases_order k place) [
        | inl same ↦ eq-eqb (num thing) number (sym own.1 ∙ (ap (λ i. slice_index numbers i) same ∙ is)) ∙ sym (eq-eqb k place same)
        | inr apart ↦ ne_eqb (num thing) number (differs numbers k place (num thing) number (sym own.1) is (elim apart [ inl less ↦ inl (kept.rising k place less lt) | inr more ↦ inr (kept.rising place k more own.0) ])) ∙ sym (ne_eqb k place (elim apart [ inl less ↦ (λ e. omega arith) | inr more ↦ (λ e. omega arith) ]))
      ] where
        differs : (numbers : List ℕ) (k place a b : ℕ) → a ≡ slice_index numbers k → slice_index numbers place ≡ b → (slice_index numbers k < slice_index numbers place) ⊎ (slice_index numbers place < slice_index numbers k) → a ≢ b
        differs numbers k place a b p q (inl less) e = omega arith
        differs numbers k place a b p q (inr more) e = omega arith

  -- what a binary search says of the things
  pub hit : (numbers seen : List ℕ) (places : List (Option T)) (number place : ℕ) → AreKept num numbers places → seen ≡ numbers → IsBinarySearchResult (λ y. nat_cmp y number) seen (Ok place)
      → (place < length numbers) × (slice_index numbers place ≡ number)
  hit numbers seen places number place kept same h =
      let P : List ℕ → Type 0 = λ w. IsBinarySearchResult (λ y. nat_cmp y number) w (Ok place) in
      found_there numbers number place kept.rising (subst P same h)

  pub searched_there : (numbers seen : List ℕ) (places : List (Option T)) (number place : ℕ) → AreKept num numbers places → seen ≡ numbers → IsBinarySearchResult (λ y. nat_cmp y number) seen (Ok place)
      → numbered num number (living places) ≡ place_at places place
  searched_there numbers seen places number place kept same h =
      let f = hit numbers seen places number place kept same h in
      found (λ x. eqb (num x) number) places place (only_place numbers places number place kept f.0 f.1)

  pub missed : (numbers seen : List ℕ) (places : List (Option T)) (number place : ℕ) → AreKept num numbers places → seen ≡ numbers → IsBinarySearchResult (λ y. nat_cmp y number) seen (Err place) → place ≤ length seen
      → PicksNone (λ x. eqb (num x) number) places
  missed numbers seen places number place kept same h le j thing there =
      let P : List ℕ → Type 0 = λ w. IsBinarySearchResult (λ y. nat_cmp y number) w (Err place) in
      let s = found_between numbers number place kept.rising (subst P same h) (omega (arith, le, ap length same)) in
      let own = kept.at_its_number j thing there in
      ne_eqb (num thing) number (elim (cases_lt j place) [
        | inl less ↦ below_it (s.below j less) own.1
        | inr more ↦ above_it (s.above j more own.0) own.1
      ]) where
        below_it : {a b c : ℕ} → a < b → a ≡ c → c ≢ b
        below_it h p e = omega arith

        above_it : {a b c : ℕ} → b < a → a ≡ c → c ≢ b
        above_it h p e = omega arith

  pub searched_nowhere : (numbers seen : List ℕ) (places : List (Option T)) (number place : ℕ) → AreKept num numbers places → seen ≡ numbers → IsBinarySearchResult (λ y. nat_cmp y number) seen (Err place) → place ≤ length seen
      → (numbered num number (living places) ≡ None) × (without num number (living places) ≡ living places)
  searched_nowhere numbers seen places number place kept same h le =
      let none = missed numbers seen places number place kept same h le in
      (none_found (λ x. eqb (num x) number) places none, none_left (λ x. eqb (num x) number) places none)

  pub taken_out : (numbers seen : List ℕ) (places : List (Option T)) (number place : ℕ) → AreKept num numbers places → seen ≡ numbers → IsBinarySearchResult (λ y. nat_cmp y number) seen (Ok place)
      → living (set places place None) ≡ without num number (living places)
  taken_out numbers seen places number place kept same h =
      let f = hit numbers seen places number place kept same h in
      emptied (λ x. eqb (num x) number) places place (only_place numbers places number place kept f.0 f.1)

  -- a place is emptied, or its thing changes and keeps its number
  pub set_kept : (numbers : List ℕ) (places : List (Option T)) (place : ℕ) (v : Option T) → AreKept num numbers places → ((thing : T) → v ≡ Some thing → (place < length numbers) × (slice_index numbers place ≡ num thing)) → AreKept num numbers (set places place v)
  set_kept numbers places place v kept own = record {
    size = kept.size ∙ sym (length-set places place v);
    rising = kept.rising;
    at_its_number = λ k thing is. elim (cases_eq k place) [
      | inl same ↦ at_it k thing same is
      | inr apart ↦ kept.at_its_number k thing (sym (get_or-set_other places place k v None apart) ∙ is)
    ];
  } where
    at_it : (k : ℕ) (thing : T) → k ≡ place → place_at (set places place v) k ≡ Some thing → (k < length numbers) × (slice_index numbers k ≡ num thing)
    at_it k thing same is = elim (cases_lt place (length places)) [
      | inl lt ↦ rw same (own thing (sym (get_or-set_same places place v None lt) ∙ (ap (λ i. place_at (set places place v) i) (sym same) ∙ is)))
      | inr far ↦ absurd (nothing (place_far (set places place v) k (omega (arith, length-set places place v))) is)
    ] where
      nothing : {a : Option T} → a ≡ None → a ≡ Some thing → ⊥
      nothing e f = cc

  pub push_kept : (numbers : List ℕ) (places : List (Option T)) (thing : T) → AreKept num numbers places → ((k : ℕ) → k < length numbers → slice_index numbers k < num thing)
      → AreKept num (numbers ++ num thing ∷ []) (places ++ Some thing ∷ [])
  push_kept numbers places thing kept last = record {
    size = omega (arith, kept.size, length-append numbers (num thing ∷ []), length-append places (Some thing ∷ []));
    rising = λ i j less lt. elim (cases_lt j (length numbers)) [
      | inl inside ↦ omega (arith, kept.rising i j less inside, at_left numbers (num thing) i (omega arith), at_left numbers (num thing) j inside)
      | inr outside ↦ omega (arith, one_longer numbers (num thing), at_left numbers (num thing) i (omega (arith, one_longer numbers (num thing))), last i (omega (arith, one_longer numbers (num thing))), at_end numbers (num thing) j (omega (arith, one_longer numbers (num thing))))
    ];
    at_its_number = λ k other is. elim (cases_order k (length places)) [
      | inl same ↦ (omega (arith, one_longer numbers (num thing), kept.size), at_end numbers (num thing) k (same ∙ sym kept.size) ∙ ap num (some_same (sym (place_end places (Some thing) k same) ∙ is)))
      | inr apart ↦ elim apart [
        | inl less ↦ old k other (kept.at_its_number k other (sym (place_left places (Some thing) k less) ∙ is))
        | inr more ↦ absurd (nothing (place_far (places ++ Some thing ∷ []) k (omega (arith, length-append places (Some thing ∷ [])))) is)
      ]
    ];
  } where
    old : (k : ℕ) (other : T) → (k < length numbers) × (slice_index numbers k ≡ num other) → (k < length (numbers ++ num thing ∷ [])) × (slice_index (numbers ++ num thing ∷ []) k ≡ num other)
    old k other h = (omega (arith, h.0, one_longer numbers (num thing)), at_left numbers (num thing) k h.0 ∙ h.1)

    nothing : {a : Option T} {other : T} → a ≡ None → a ≡ Some other → ⊥
    nothing e f = cc

-- ---- moved together

module _ {T : Type 0} (num : T → ℕ) where
  -- all numbers are above n, also by their places
  above_at : (n : ℕ) (xs : List T) (j : ℕ) → AllByRecursion (λ y. n < num y) xs → j < length (map num xs) → n < slice_index (map num xs) j
  above_at n [] j h lt = absurd (omega arith)
  above_at n (x ∷ xs) zero h lt = h.0
  above_at n (x ∷ xs) (suc j) h lt = above_at n xs j h.1 (omega arith)

  pub below_at : (n : ℕ) (xs : List T) (j : ℕ) → AllByRecursion (λ y. num y < n) xs → j < length (map num xs) → slice_index (map num xs) j < n
  below_at n [] j h lt = absurd (omega arith)
  below_at n (x ∷ xs) zero h lt = h.0
  below_at n (x ∷ xs) (suc j) h lt = below_at n xs j h.1 (omega arith)

  numbers_rise : (xs : List T) → AreNumbered num xs → (i j : ℕ) → i < j → j < length (map num xs) → slice_index (map num xs) i < slice_index (map num xs) j
  numbers_rise [] h i j less lt = absurd (omega arith)
  numbers_rise (x ∷ xs) h i zero less lt = absurd (omega arith)
  numbers_rise (x ∷ xs) h zero (suc j) less lt = above_at (num x) xs j h.0 (omega arith)
  numbers_rise (x ∷ xs) h (suc i) (suc j) less lt = numbers_rise xs h.1 i j (omega arith) (omega arith)

  there : (xs : List T) (k : ℕ) (thing : T) → place_at (map Some xs) k ≡ Some thing → (k < length (map num xs)) × (slice_index (map num xs) k ≡ num thing)
  there [] k thing is = absurd (cc)
  there (x ∷ xs) zero thing is = (omega arith, ap num (some_same is))
  there (x ∷ xs) (suc k) thing is = let rest = there xs k thing is in (omega (arith, rest.0), rest.1)

  together : (xs : List T) → AreNumbered num xs → AreKept num (map num xs) (map Some xs)
  together xs h = record {
    size = length-map xs num ∙ sym (length-map xs Some);
    rising = numbers_rise xs h;
    at_its_number = there xs;
  }

  same_numbers : (xs : List T) (numbers : List ℕ) → length xs ≤ length numbers → HaveNumbers num numbers (map Some xs) (length xs) → take (length xs) numbers ≡ map num xs
  same_numbers [] numbers le h = refl
  same_numbers (x ∷ xs) [] le h = absurd (omega arith)
  same_numbers (x ∷ xs) (n ∷ numbers) le h = cong (h zero x (omega arith) refl) (same_numbers xs numbers (omega arith) (λ k thing lt is. h (suc k) thing (omega arith) is)) where
    cong : {a b : ℕ} {us bs : List ℕ} → a ≡ b → us ≡ bs → a ∷ us ≡ b ∷ bs
    cong e f = cc

  pub record Compacts (places : List (Option T)) (numbers' : List ℕ) (places' : List (Option T)) : Type 0 where
    pub kept : AreKept num numbers' places'
    pub things : living places' ≡ living places
    pub tight : numbers' ≡ map num (living places')

  pub compacted : (numbers numbers' made : List ℕ) (places places' : List (Option T)) → AreKept num numbers places → places' ≡ filter is_some places → length places' ≤ length made → HaveNumbers num made places' (length places') → numbers' ≡ take (length places') made
      → Compacts places numbers' places'
  compacted numbers numbers' made places places' kept is le have cut =
      let xs = living places in
      let some : places' ≡ map Some xs = is ∙ filtered places in
      let size : length places' ≡ length xs = ap length some ∙ length-map xs Some in
      let have_xs : HaveNumbers num made (map Some xs) (length xs) = λ k thing lt at. have k thing (omega (arith, size)) (ap (λ w. place_at w k) some ∙ at) in
      let numbered : numbers' ≡ map num xs = cut ∙ (ap (λ n. take n made) size ∙ same_numbers xs made (omega (arith, size)) have_xs) in
      let things : living places' ≡ xs = ap living some ∙ living_some xs in
      record {
        kept = both some numbered (together xs (kept_numbered num numbers places kept));
        things = things;
        tight = numbered ∙ ap (map num) (sym things);
      } where
        both : {us bs : List (Option T)} {ns ms : List ℕ} → us ≡ bs → ns ≡ ms → AreKept num ms bs → AreKept num ns us
        both e f h = rw (e, f) h

  pub all_below : (numbers : List ℕ) (xs : List T) (n : ℕ) → numbers ≡ map num xs → AllByRecursion (λ y. num y < n) xs → (k : ℕ) → k < length numbers → slice_index numbers k < n
  all_below numbers xs n is h k lt = up (ap (λ w. slice_index w k) is) (below_at n xs k h (omega (arith, ap length is))) where
    up : {a b : ℕ} → a ≡ b → b < n → a < n
    up e h = omega arith

  pub last_below : (numbers : List ℕ) (places : List (Option T)) (n last : ℕ) → AreKept num numbers places → last ≡ slice_index numbers (length numbers - 1) → last < n → (k : ℕ) → k < length numbers → slice_index numbers k < n
  last_below numbers places n last kept is less k lt = elim (cases_eq k (length numbers - 1)) [
    | inl e ↦ same (ap (λ i. slice_index numbers i) e)
    | inr ne ↦ omega (arith, kept.rising k (length numbers - 1) (omega arith) (omega arith))
  ] where
    same : {a : ℕ} → a ≡ slice_index numbers (length numbers - 1) → a < n
    same e = omega arith

pub by_same : {T : Type 0} (num : T → ℕ) (n : ℕ) (xs ys : List T) → ys ≡ xs → AllByRecursion (λ x. num x < n) xs → AllByRecursion (λ x. num x < n) ys
by_same num n xs ys e h = rw e h

module _ {T : Type 0} (num : T → ℕ) where
  -- what all places' numbers are below, all things' are
  pub things_below : (numbers : List ℕ) (places : List (Option T)) (n : ℕ) → AreKept num numbers places → ((k : ℕ) → k < length numbers → slice_index numbers k < n) → AllByRecursion (λ x. num x < n) (living places)
  things_below numbers places n kept below = living_all (λ x. num x < n) places (λ k thing is. up (kept.at_its_number k thing is).1 (below k (kept.at_its_number k thing is).0)) where
    up : {a b : ℕ} → a ≡ b → a < n → b < n
    up e h = omega arith

module _ {T : Type 0} (num : T → ℕ) where
  over_next : (numbers : List ℕ) (x : T) (things : List T) → AllByRecursion (λ y. num x < num y) things → AreOver num numbers (x ∷ things) → AreOver num (numbers ++ num x ∷ []) things
  over_next numbers x things h over k lt = elim (cases_lt k (length numbers)) [
    | inl inside ↦ subst (λ (n : ℕ). AllByRecursion (λ y. n < num y) things) (sym (at_left numbers (num x) k inside)) (over k inside).1
    | inr outside ↦ subst (λ (n : ℕ). AllByRecursion (λ y. n < num y) things) (sym (at_end numbers (num x) k (omega (arith, lt, one_longer numbers (num x))))) h
  ]

  pub append_kept : (numbers : List ℕ) (places : List (Option T)) (things : List T) → AreKept num numbers places → AreNumbered num things → AreOver num numbers things
      → AreKept num (numbers ++ map num things) (places ++ map Some things)
  append_kept numbers places [] kept up over = rw (append_nil numbers, append_nil places) kept
  append_kept numbers places (x ∷ things) kept up over =
      let one = push_kept num numbers places x kept (λ k lt. (over k lt).0) in
      let rest = append_kept (numbers ++ num x ∷ []) (places ++ Some x ∷ []) things one up.1 (over_next numbers x things up.0 over) in
      both (sym (append_assoc numbers (num x ∷ []) (map num things))) (sym (append_assoc places (Some x ∷ []) (map Some things))) rest where
        both : {us bs : List (Option T)} {ns ms : List ℕ} → ns ≡ ms → us ≡ bs → AreKept num ms bs → AreKept num ns us
        both e f h = rw (e, f) h

  pub numbered_parts : (xs ys : List T) → AreNumbered num (xs ++ ys) → AreNumbered num ys × AllByRecursion (λ y. AllByRecursion (λ x. num x < num y) xs) ys
  numbered_parts [] ys h = (h, everywhere_tt ys) where
    everywhere_tt : (ys : List T) → AllByRecursion (λ y. Unit {0}) ys
    everywhere_tt [] = tt
    everywhere_tt (y ∷ ys) = (tt, everywhere_tt ys)
  numbered_parts (x ∷ xs) ys h = let rest = numbered_parts xs ys h.1 in (rest.0, zipped ys (back xs ys h.0) rest.1) where
    back : (xs ys : List T) → AllByRecursion (λ y. num x < num y) (xs ++ ys) → AllByRecursion (λ y. num x < num y) ys
    back [] ys h = h
    back (z ∷ xs) ys h = back xs ys h.1

    zipped : (ys : List T) → AllByRecursion (λ y. num x < num y) ys → AllByRecursion (λ y. AllByRecursion (λ x. num x < num y) xs) ys → AllByRecursion (λ y. AllByRecursion (λ x. num x < num y) (x ∷ xs)) ys
    zipped [] p q = tt
    zipped (y ∷ ys) p q = ((p.0, q.0), zipped ys p.1 q.1)

  pub later_below : (xs : List T) (y : T) (ys : List T) → AreNumbered num (xs ++ y ∷ ys) → AllByRecursion (λ x. num x < num y) xs
  later_below xs y ys h = (numbered_parts xs (y ∷ ys) h).1.0

  -- where the first of them is above all numbers, all are
  pub over_all : (numbers : List ℕ) (x : T) (things : List T) → AllByRecursion (λ y. num x < num y) things → ((k : ℕ) → k < length numbers → slice_index numbers k < num x) → AreOver num numbers (x ∷ things)
  over_all numbers x things up below k lt = (below k lt, more things up (slice_index numbers k) (below k lt)) where
    more : (ys : List T) → AllByRecursion (λ y. num x < num y) ys → (n : ℕ) → n < num x → AllByRecursion (λ y. n < num y) ys
    more [] h n lt = tt
    more (y ∷ ys) h n lt = (omega (arith, h.0), more ys h.1 n lt)

  pub first_below : (xs things : List T) (first : T) (n : ℕ) → 1 ≤ length things → first ≡ get_or things 0 first → n ≡ num first → AreNumbered num (xs ++ things) → AllByRecursion (λ x. num x < n) xs
  first_below xs [] first n some is e h = absurd (omega arith)
  first_below xs (y ∷ ys) first n some is e h = subst (λ (m : ℕ). AllByRecursion (λ x. num x < m) xs) (ap num (sym is) ∙ sym e) (later_below xs y ys h)

  pub over_from : (xs things : List T) (first : T) (n : ℕ) (numbers : List ℕ) → 1 ≤ length things → first ≡ get_or things 0 first → n ≡ num first → AreNumbered num (xs ++ things) → ((k : ℕ) → k < length numbers → slice_index numbers k < n) → AreOver num numbers things
  over_from xs [] first n numbers some is e h below = absurd (omega arith)
  over_from xs (y ∷ ys) first n numbers some is e h below =
      over_all numbers y ys (numbered_parts xs (y ∷ ys) h).0.0 (subst (λ (m : ℕ). (k : ℕ) → k < length numbers → slice_index numbers k < m) (e ∙ ap num is) below)
