-- Numbers that are named under keys stay so.
use Rattle.std.proofs.Common.{◌≡◌, ℕ, ◌+◌, ◌<◌, Bool, true, false, ◌||◌, ◌&&◌, eqb, nat_lt, List, [], ◌∷◌, ◌++◌, length, take, get_or, refl, ap, sym, ◌∙◌, inl, inr, ◌⊎◌}
use Rattle.std.specs.Prelude.{slice_index, Option, Some, None, find}
use Rattle.std.specs.List.{AllByRecursion, list_any}
use Rattle.std.specs.Option.{option_map_or}
use Rattle.std.proofs.lemmas.List.{take_more}
use Rattle.jsp_table.specs.Numbers.{contains}
use Rattle.jsp_table.specs.Finding.{is_hit, AreNumbered, AreNamed as AreNamedBy}
use Rattle.jsp_table.proofs.Rising.{or_cases}
use Rattle.jsp_table.proofs.Finding.{each, both}
use Rattle.jsp_keyed.specs.Finding.{is_next, is_sought, IsLeast}
use Rattle.jsp_keyed.specs.Kept.{IsNamed, Keeps}
use Rattle.jsp_keyed.proofs.Walking.{and_both, eqb_eq}
use Rattle.jsp_keyed.proofs.Least.{found_least, least_among, least_first}
use Rattle.jsp_table.specs.Hints.{list_of, names}
use Rattle.jsp_table.specs.declared.hints.Hints.{Hints}

pub All-append : {X : Type 0} (P : X → Type 0) (xs ys : List X) → AllByRecursion P xs → AllByRecursion P ys → AllByRecursion P (xs ++ ys)
All-append P [] ys h k = k
All-append P (x ∷ xs) ys h k = (h.0, All-append P xs ys h.1 k)

any_end : {X : Type 0} (p : X → Bool) (xs : List X) (x : X) → list_any p (xs ++ x ∷ []) ≡ true → (list_any p xs ≡ true) ⊎ (p x ≡ true)
any_end p [] x h = elim (or_cases (p x) false h) [ inl e ↦ inr e | inr e ↦ absurd (cc) ]
any_end p (y ∷ xs) x h = elim (or_cases (p y) (list_any p (xs ++ x ∷ [])) h) [
  | inl e ↦ inl (rw e refl)
  | inr e ↦ elim (any_end p xs x e) [ inl f ↦ inl (or_right (p y) (list_any p xs) f) | inr f ↦ inr f ]
] where
  or_right : (a b : Bool) → b ≡ true → (a || b) ≡ true
  or_right true b h = refl
  or_right false b h = h

-- what one of one more passes, one of these passes or the next does
pub any_more : (p : ℕ → Bool) (ns : List ℕ) (i : ℕ) → i < length ns → list_any p (take (i + 1) ns) ≡ true → (list_any p (take i ns) ≡ true) ⊎ (p (slice_index ns i) ≡ true)
any_more p ns i lt h = any_end p (take i ns) (get_or ns i 0) (ap (list_any p) (sym (take_more ns i 0 lt)) ∙ h)

or_second : (a b : Bool) → b ≡ true → (a || b) ≡ true
or_second true b k = refl
or_second false b k = k

pub still_named : (old new : Hints) (n : ℕ) (keys : List ℕ) → ((k : ℕ) → names old k n ≡ true → names new k n ≡ true) → IsNamed old n keys → IsNamed new n keys
still_named old new n keys keeps h = each (λ k. names old k n ≡ true) (λ k. names new k n ≡ true) keys h keeps

pub one_more : (old new : Hints) (n i : ℕ) (keys : List ℕ) → Keeps old new → i < length keys → IsNamed old n (take i keys) → names new (slice_index keys i) n ≡ true → IsNamed new n (take (i + 1) keys)
one_more old new n i keys keeps lt h this =
    rw (take_more keys i 0 lt) (All-append (λ k. names new k n ≡ true) (take i keys) (get_or keys i 0 ∷ []) (still_named old new n (take i keys) (λ k. keeps k n) h) (this, tt))

-- a key that is among those is one under which it is named
pub named_under : (hints : Hints) (n : ℕ) (keys : List ℕ) (k : ℕ) → IsNamed hints n keys → contains keys k ≡ true → names hints k n ≡ true
named_under hints n [] k h e = absurd (cc)
named_under hints n (m ∷ keys) k h e = elim (or_cases (eqb m k) (contains keys k) e) [
  | inl f ↦ ap (λ w. names hints w n) (sym (eqb_eq m k f)) ∙ h.0
  | inr f ↦ named_under hints n keys k h.1 f
]

-- what has a key that is sought is named under one
pub sought_named : (hints : Hints) (n : ℕ) (keys sought : List ℕ) → IsNamed hints n keys → is_sought sought keys ≡ true → list_any (λ k. names hints k n) sought ≡ true
sought_named hints n keys [] h e = absurd (cc)
sought_named hints n keys (k ∷ sought) h e = elim (or_cases (contains keys k) (list_any (contains keys) sought) e) [
  | inl f ↦ rw (named_under hints n keys k h f) refl
  | inr f ↦ or_second (names hints k n) (list_any (λ k. names hints k n) sought) (sought_named hints n keys sought h f)
]

pub not_named : (hints : Hints) (key n : ℕ) → list_of hints key ≡ None → names hints key n ≡ false
not_named hints key n none = ap (λ o. option_map_or (λ ns. contains ns n) o false) none

and_true : (a b : Bool) → a ≡ true → b ≡ true → (a && b) ≡ true
and_true a b h k = rw (h, k) refl

module _ {T : Type 0} (num : T → ℕ) (passed : T → Bool) (numbers : List ℕ) (after : ℕ) where
  pub hit_passes : (x : T) → is_hit num passed numbers after x ≡ true → is_next num passed after x ≡ true
  hit_passes x h =
      let one = and_both (nat_lt after (num x)) (contains numbers (num x) && passed x) h in
      let two = and_both (contains numbers (num x)) (passed x) one.1 in
      and_true (nat_lt after (num x)) (passed x) one.0 two.1

  hits : (x : T) → is_next num passed after x ≡ true → contains numbers (num x) ≡ true → is_hit num passed numbers after x ≡ true
  hits x h has =
      let one = and_both (nat_lt after (num x)) (passed x) h in
      and_true (nat_lt after (num x)) (contains numbers (num x) && passed x) one.0 (and_true (contains numbers (num x)) (passed x) has one.1)

  pub named_hits : (hints : Hints) (key : ℕ) → list_of hints key ≡ Some numbers → (x : T) → is_next num passed after x ≡ true → names hints key (num x) ≡ true → is_hit num passed numbers after x ≡ true
  named_hits hints key there x h named = hits x h (sym (ap (λ o. option_map_or (λ ns. contains ns (num x)) o false) there) ∙ named)

  -- what is found among those that are named, where all of a kind are
  pub hit_least : (kind : T → Bool) (xs : List T) → AreNumbered num xs → AreNamedBy num kind numbers xs → IsLeast num (is_next num passed after) kind xs (find (is_hit num passed numbers after) xs)
  hit_least kind xs up named =
      least_among num (is_next num passed after) (λ x. kind x ≡ true → contains numbers (num x) ≡ true) (λ x. contains numbers (num x)) kind xs (find (is_hit num passed numbers after) xs) named (λ x f k. f k)
      (found_least num (is_next num passed after) (is_hit num passed numbers after) (λ x. contains numbers (num x)) xs up hit_passes hits)

-- ---- of a kind of which all have a key

module _ {T : Type 0} (num : T → ℕ) (keys : T → List ℕ) (hints : Hints) (key : ℕ) (kind : T → Bool) where
  kind_named : ((x : T) → kind x ≡ true → contains (keys x) key ≡ true) → (x : T) → IsNamed hints (num x) (keys x) → kind x ≡ true → names hints key (num x) ≡ true
  kind_named have x named k = named_under hints (num x) (keys x) key named (have x k)

  pub kind_among : (numbers : List ℕ) (xs : List T) → list_of hints key ≡ Some numbers → ((x : T) → kind x ≡ true → contains (keys x) key ≡ true) → AllByRecursion (λ x. IsNamed hints (num x) (keys x)) xs → AreNamedBy num kind numbers xs
  kind_among numbers xs there have named =
      each (λ x. IsNamed hints (num x) (keys x)) (λ x. kind x ≡ true → contains numbers (num x) ≡ true) xs named
      (λ x h k. sym (ap (λ o. option_map_or (λ ns. contains ns (num x)) o false) there) ∙ kind_named have x h k)

  pub kind_none : (numbers : List ℕ) (xs : List T) → list_of hints key ≡ None → ((x : T) → kind x ≡ true → contains (keys x) key ≡ true) → AllByRecursion (λ x. IsNamed hints (num x) (keys x)) xs → AreNamedBy num kind numbers xs
  kind_none numbers xs none have named =
      each (λ x. IsNamed hints (num x) (keys x)) (λ x. kind x ≡ true → contains numbers (num x) ≡ true) xs named
      (λ x h k. absurd (cc (not_named hints key (num x) none, kind_named have x h k)))

-- where all that pass are named, the first that is named and passes is the first that passes
pub first_of_named : {T : Type 0} (num : T → ℕ) (passed : T → Bool) (last : ℕ) (ns : List ℕ) (xs : List T) (o : Option T) → AreNumbered num xs → AreNamedBy num passed ns xs
    → ((kind : T → Bool) → AreNamedBy num kind ns xs → IsLeast num (is_next num passed last) kind xs o) → o ≡ find (is_next num passed last) xs
first_of_named num passed last ns xs o up named least =
    least_first num (is_next num passed last) passed xs o up (λ x h. (and_both (nat_lt last (num x)) (passed x) h).1) (least passed named)

-- what has a key that is sought and passes is among the numbers that were gathered
pub gathered : {T : Type 0} (num : T → ℕ) (passed : T → Bool) (keys : T → List ℕ) (hints : Hints) (sought ns : List ℕ) (xs : List T) → ((x : T) → passed x ≡ true → is_sought sought (keys x) ≡ true)
    → AllByRecursion (λ x. IsNamed hints (num x) (keys x)) xs → AllByRecursion (λ x. passed x ≡ true → list_any (λ k. names hints k (num x)) sought ≡ true → contains ns (num x) ≡ true) xs → AreNamedBy num passed ns xs
gathered num passed keys hints sought ns xs seeks named known =
    both (λ x. IsNamed hints (num x) (keys x)) (λ x. passed x ≡ true → list_any (λ k. names hints k (num x)) sought ≡ true → contains ns (num x) ≡ true) (λ x. passed x ≡ true → contains ns (num x) ≡ true) xs named known
    (λ x h known e. known e (sought_named hints (num x) (keys x) sought h (seeks x e)))
