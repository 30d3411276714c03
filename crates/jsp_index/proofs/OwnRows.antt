-- A transaction's own rows, which are looked at first, and what is open before them.
use Rattle.std.proofs.Common.{◌≡◌, ◌≢◌, ℕ, ◌-◌, ◌<◌, ◌≤◌, Bool, true, false, cond, not, eqb, ◌&&◌, ◌||◌, nat_lt, List, [], ◌∷◌, Option, Some, None, inl, inr, ◌⊎◌, refl, ap, sym, ◌∙◌, subst, arith}
use Rattle.std.specs.Prelude.{find, nat_le, option_map}
use Rattle.std.specs.Option.{option_map_or}
use Rattle.std.specs.List.{AllByRecursion}
use Rattle.std.proofs.lemmas.Bool.{cases_lt}
use Rattle.std.proofs.lemmas.Bool.Decides.{nat_tests}
use Rattle.jsp_model.specs.declared.state.Row.{Row}
use Rattle.jsp_table.specs.Numbers.{contains, AreIncreasing}
use Rattle.jsp_table.specs.Finding.{numbered, AreNamed, AreNumbered as AreRising}
use Rattle.jsp_table.proofs.Finding.{each, both, everywhere, found_number, Fails}
use Rattle.jsp_table.proofs.Next.{none_between, none_above, next_is_above}
use Rattle.jsp_table.proofs.Rising.{or_cases}
use Rattle.jsp_keyed.specs.Finding.{IsUpTo, IsOneOf}
use Rattle.jsp_keyed.proofs.Least.{found_least, least_of_both, least_among, least_first}
use Rattle.jsp_keyed.proofs.Walking.{only_one}
use Rattle.jsp_index.specs.Finding.{number, is_next, IsLeast, lesser}
use Rattle.jsp_index.specs.Numbered.{AreNumbered}
use Rattle.jsp_index.specs.declared.starts.Unseen.{Unseen}
use Rattle.jsp_index.specs.Passed.{is_open, AreOpen, AreOpenOr}
use Rattle.jsp_index.specs.Own.{own_numbers, is_own, is_within, IsKept, AreWithin}
use Rattle.jsp_index.proofs.Covering.{and_both}
use Rattle.jsp_index.proofs.Heads.{none_of}
use Rattle.jsp_index.proofs.Narrowing.{and_true}

is_less : (a b : ℕ) → a < b → nat_lt a b ≡ true
is_less a b h = grind (arith, nat_tests)

less_is : (a b : ℕ) → nat_lt a b ≡ true → a < b
less_is a b h = grind (arith, nat_tests)

le_is : (a b : ℕ) → nat_le a b ≡ true → a ≤ b
le_is a b h = grind (arith, nat_tests)

over_is : (a b : ℕ) → not (nat_le a b) ≡ true → b ≤ a
over_is a b h = grind (arith, nat_tests)

or_left : (a b : Bool) → a ≡ true → (a || b) ≡ true
or_left true b h = refl
or_left false b h = absurd (cc)

or_right : (a b : Bool) → b ≡ true → (a || b) ≡ true
or_right true b h = refl
or_right false b h = h

-- ---- a search that ends above a number

module _ (passed kind : Row → Bool) (after last : ℕ) (rows : List Row) where
  abbrev ends : Row → Bool
  ends r = nat_lt last r.number || passed r

  or_ends : (r : Row) → is_next passed after r ≡ true → is_next ends after r ≡ true
  or_ends r n = let two = and_both (nat_lt after r.number) (passed r) n in and_true (nat_lt after r.number) (ends r) two.0 (or_right (nat_lt last r.number) (passed r) two.1)

  pub none_up_to : IsLeast (is_next ends after) kind rows None → IsLeast (is_next passed after) kind rows None
  none_up_to h = record {
    one = tt;
    least = each (λ r. is_next ends after r ≡ true → kind r ≡ true → ⊥) (λ r. is_next passed after r ≡ true → kind r ≡ true → ⊥) rows h.least (λ r g n k. g (or_ends r n) k);
  }

  pub above_up_to : (first : Row) → last < first.number → AreWithin (Some last) passed rows → IsLeast (is_next ends after) kind rows (Some first) → IsLeast (is_next passed after) kind rows None
  above_up_to first over within h = record {
    one = tt;
    least = both (λ r. passed r ≡ true → nat_le r.number last ≡ true) (λ r. is_next ends after r ≡ true → kind r ≡ true → first.number ≤ r.number) (λ r. is_next passed after r ≡ true → kind r ≡ true → ⊥) rows within h.least
        (λ r w g n k. apart r.number over (le_is r.number last (w (and_both (nat_lt after r.number) (passed r) n).1)) (g (or_ends r n) k));
  } where
    apart : (m : ℕ) → last < first.number → m ≤ last → first.number ≤ m → ⊥
    apart m p q s = omega arith

  pub some_up_to : (first : Row) → first.number ≤ last → IsLeast (is_next ends after) kind rows (Some first) → IsLeast (is_next passed after) kind rows (Some first)
  some_up_to first under h = record {
    one = (of_ends (and_both (nat_lt after first.number) (ends first) h.one.0), h.one.1);
    least = each (λ r. is_next ends after r ≡ true → kind r ≡ true → first.number ≤ r.number) (λ r. is_next passed after r ≡ true → kind r ≡ true → first.number ≤ r.number) rows h.least (λ r g n k. g (or_ends r n) k);
  } where
    apart : last < first.number → first.number ≤ last → ⊥
    apart p q = omega arith

    of_ends : (nat_lt after first.number ≡ true) × (ends first ≡ true) → is_next passed after first ≡ true
    of_ends two = elim (or_cases (nat_lt last first.number) (passed first) two.1) [
      | inl e ↦ absurd (apart (less_is last first.number e) under)
      | inr e ↦ and_true (nat_lt after first.number) (passed first) two.0 e
    ]

-- ---- the first of its own

-- no number of a list stands before the next one
pub next_up : (numbers : List ℕ) (last n m : ℕ) → AreIncreasing numbers → find (nat_lt last) numbers ≡ Some n → last < m → contains numbers m ≡ true → n ≤ m
next_up numbers last n m up is over there = elim (cases_lt m n) [
  | inl less ↦ absurd (cc (there, none_between numbers last n m up is over less))
  | inr more ↦ more
]

module _ (passed : Row → Bool) (own : List ℕ) (after : ℕ) (rows : List Row) where
  -- those of its own that pass stand above a number
  abbrev pub AreOver : ℕ → Type 0
  AreOver last = AllByRecursion (λ r. is_next passed after r ≡ true → contains own r.number ≡ true → last < r.number) rows

  pub over_at_first : AreOver after
  over_at_first = everywhere (λ r. is_next passed after r ≡ true → contains own r.number ≡ true → after < r.number) rows (λ r n k. less_is after r.number (and_both (nat_lt after r.number) (passed r) n).0)

  pub own_none : (last : ℕ) → find (nat_lt last) own ≡ None → AreOver last → IsLeast (is_next passed after) (λ r. contains own r.number) rows None
  own_none last none over = record {
    one = tt;
    least = each (λ r. is_next passed after r ≡ true → contains own r.number ≡ true → last < r.number) (λ r. is_next passed after r ≡ true → contains own r.number ≡ true → ⊥) rows over
        (λ r g n k. absurd (cc (k, none_above own last r.number none (g n k))));
  }

  own_found : (last n : ℕ) (first : Row) → AreIncreasing own → find (nat_lt last) own ≡ Some n → after ≤ last → numbered number n rows ≡ Some first → passed first ≡ true → AreOver last → IsLeast (is_next passed after) (λ r. contains own r.number) rows (Some first)
  own_found last n first up is le there passes over =
      let same : first.number ≡ n = found_number number n rows first there in
      let above : last < n = next_is_above own last n is in
      record {
        one = (and_true (nat_lt after first.number) (passed first) (is_less after first.number (further le above same)) passes, subst (λ (m : ℕ). numbered number m rows ≡ Some first) (sym same) there);
        least = each (λ r. is_next passed after r ≡ true → contains own r.number ≡ true → last < r.number) (λ r. is_next passed after r ≡ true → contains own r.number ≡ true → first.number ≤ r.number) rows over
            (λ r g m k. subst (λ (w : ℕ). w ≤ r.number) (sym same) (next_up own last n r.number up is (g m k) k));
      } where
        further : {a b c d : ℕ} → a ≤ b → b < c → d ≡ c → a < d
        further p q e = omega arith

  -- the row of the next number, if there is one, passes
  pub own_next : (last n : ℕ) (o : Option Row) → AreIncreasing own → find (nat_lt last) own ≡ Some n → after ≤ last → numbered number n rows ≡ o → option_map_or passed o false ≡ true → AreOver last → IsLeast (is_next passed after) (λ r. contains own r.number) rows o
  own_next last n None up is le there passes over = absurd (cc (passes))
  own_next last n (Some first) up is le there passes over = own_found last n first up is le there passes over

  -- the row of a number fails
  pub all_fail : (n : ℕ) → AreRising number rows → Fails number passed n rows → AllByRecursion (λ r. r.number ≡ n → passed r ≡ false) rows
  all_fail n up fails = at (numbered number n rows) refl fails where
    at : (o : Option Row) → numbered number n rows ≡ o → option_map_or passed o false ≡ false → AllByRecursion (λ r. r.number ≡ n → passed r ≡ false) rows
    at None e f = none_of (λ r. passed r ≡ false) n rows e
    at (Some first) e f = each (λ r. r.number ≡ n → r ≡ first) (λ r. r.number ≡ n → passed r ≡ false) rows (only_one number n rows first up e) (λ r one is. ap passed (one is) ∙ f)

  pub over_more : (space last n to : ℕ) → AreIncreasing own → AreRising number rows → find (nat_lt last) own ≡ Some n → Fails number passed n rows → ((r : Row) → passed r ≡ true → eqb r.space space ≡ true)
      → AllByRecursion (λ r. eqb r.space space ≡ true → n < r.number → to < r.number) rows → AreOver last → AreOver to
  over_more space last n to up rise is fails inside none over =
      both (λ r. r.number ≡ n → passed r ≡ false) (λ r. is_next passed after r ≡ true → contains own r.number ≡ true → n ≤ r.number × (eqb r.space space ≡ true → n < r.number → to < r.number)) (λ r. is_next passed after r ≡ true → contains own r.number ≡ true → to < r.number) rows
      (all_fail n rise fails)
      (both (λ r. is_next passed after r ≡ true → contains own r.number ≡ true → last < r.number) (λ r. eqb r.space space ≡ true → n < r.number → to < r.number) (λ r. is_next passed after r ≡ true → contains own r.number ≡ true → n ≤ r.number × (eqb r.space space ≡ true → n < r.number → to < r.number)) rows over none (λ r g h m k. (next_up own last n r.number up is (g m k) k, h)))
      (λ r f g m k.
      let passes = (and_both (nat_lt after r.number) (passed r) m).1 in
      let two = g m k in
      two.1 (inside r passes) (beyond two.0 (λ e. absurd (cc (passes, f e))))) where
        beyond : {a b : ℕ} → a ≤ b → b ≢ a → a < b
        beyond p q = omega arith

-- ---- how far rows of other spaces are passed

module _ (space n : ℕ) (numbers : List ℕ) (rows : List Row) (named : AreNamed number (λ r. eqb r.space space) numbers rows) where
  pub passed_to_end : (to : ℕ) → find (nat_lt n) numbers ≡ None → AllByRecursion (λ r. eqb r.space space ≡ true → n < r.number → to < r.number) rows
  passed_to_end to none = each (λ r. eqb r.space space ≡ true → contains numbers r.number ≡ true) (λ r. eqb r.space space ≡ true → n < r.number → to < r.number) rows named (λ r g s lt. absurd (cc (g s, none_above numbers n r.number none lt)))

  pub passed_to_next : (next : ℕ) → AreIncreasing numbers → find (nat_lt n) numbers ≡ Some next → AllByRecursion (λ r. eqb r.space space ≡ true → n < r.number → next - 1 < r.number) rows
  passed_to_next next up is = each (λ r. eqb r.space space ≡ true → contains numbers r.number ≡ true) (λ r. eqb r.space space ≡ true → n < r.number → next - 1 < r.number) rows named (λ r g s lt. less (next_is_above numbers n next is) (next_up numbers n next r.number up is lt (g s))) where
    less : {a b c : ℕ} → a < b → b ≤ c → b - 1 < c
    less p q = omega arith

pub passed_here : (space n : ℕ) (rows : List Row) → AllByRecursion (λ r. eqb r.space space ≡ true → n < r.number → n < r.number) rows
passed_here space n rows = everywhere (λ r. eqb r.space space ≡ true → n < r.number → n < r.number) rows (λ r s lt. lt)

-- ---- the one that is kept

module _ (passed kind : Row → Bool) (rows : List Row) where
  pub kept_none : (after : ℕ) → IsKept passed kind after rows None → IsLeast (is_next passed after) kind rows None
  kept_none after h = record { one = tt; least = h.least }

  pub kept_some : (after : ℕ) (first : Row) → after < first.number → IsKept passed kind after rows (Some first) → IsLeast (is_next passed after) kind rows (Some first)
  kept_some after first lt h = record { one = (and_true (nat_lt after first.number) (passed first) (is_less after first.number lt) h.one.0, h.one.1); least = h.least }

  pub least_kept : (before after : ℕ) (o : Option Row) → before ≤ after → IsLeast (is_next passed before) kind rows o → IsKept passed kind after rows o
  least_kept before after o le h = record {
    one = one o h.one;
    least = each (λ r. is_next passed before r ≡ true → kind r ≡ true → IsUpTo number o r.number) (λ r. is_next passed after r ≡ true → kind r ≡ true → IsUpTo number o r.number) rows h.least
        (λ r g n k. let two = and_both (nat_lt after r.number) (passed r) n in g (and_true (nat_lt before r.number) (passed r) (is_less before r.number (less le (less_is after r.number two.0))) two.1) k);
  } where
    less : {a b c : ℕ} → a ≤ b → b < c → a < c
    less p q = omega arith

    one : (o : Option Row) → IsOneOf number (is_next passed before) rows o → IsOneOf number passed rows o
    one None f = tt
    one (Some r) f = ((and_both (nat_lt before r.number) (passed r) f.0).1, f.1)

-- what is found stands above the number
pub found_over : (passed : Row → Bool) (after : ℕ) (rows : List Row) (r : Row) → find (is_next passed after) rows ≡ Some r → after ≤ r.number
found_over passed after [] r h = absurd (cc)
found_over passed after (x ∷ rows) r h = at (is_next passed after x) refl (found_over passed after rows r) where
  some_same : {a b : Row} → Some a ≡ Some b → a ≡ b
  some_same e = cc

  less : {a b : ℕ} → a < b → a ≤ b
  less p = omega arith

  at : (b : Bool) → is_next passed after x ≡ b → (find (is_next passed after) rows ≡ Some r → after ≤ r.number) → after ≤ r.number
  at true e rest = subst (λ (w : Row). after ≤ w.number) (some_same (ap (λ b. cond b (Some x) (find (is_next passed after) rows)) (sym e) ∙ h)) (less (less_is after x.number (and_both (nat_lt after x.number) (passed x) e).0))
  at false e rest = rest (ap (λ b. cond b (Some x) (find (is_next passed after) rows)) (sym e) ∙ h)

-- ---- what is open before it

module _ (u : Unseen) (last : Option ℕ) (passed : Row → Bool) where
  -- what is open, isn't above the last number and passes
  abbrev pub is_before : Row → Bool
  is_before r = is_within last r.number && is_open u r && passed r

  pub before_open : (rows : List Row) → AreOpen u is_before rows
  before_open rows = everywhere (λ r. is_before r ≡ true → is_open u r ≡ true) rows (λ r h. (and_both (is_within last r.number) (is_open u r) (and_both (is_within last r.number && is_open u r) (passed r) h).0).1)

  pub before_within : (rows : List Row) → AreWithin last is_before rows
  before_within rows = everywhere (λ r. is_before r ≡ true → is_within last r.number ≡ true) rows (λ r h. (and_both (is_within last r.number) (is_open u r) (and_both (is_within last r.number && is_open u r) (passed r) h).0).0)

  pub before_passed : (r : Row) → is_before r ≡ true → passed r ≡ true
  before_passed r h = (and_both (is_within last r.number && is_open u r) (passed r) h).1

-- nothing is above where there is no last number
pub all_within : (passed : Row → Bool) (rows : List Row) → AreWithin None passed rows
all_within passed rows = everywhere (λ r. passed r ≡ true → true ≡ true) rows (λ r h. refl)

-- the first of its own is no later than what is above it
own_or_above : (own : Row → Bool) (passed : Row → Bool) (rows : List Row) (other : Option Row) → IsLeast passed own rows other → IsLeast passed (λ r. own r || not (is_within (option_map number other) r.number)) rows other
own_or_above own passed rows None h = record {
  one = tt;
  least = each (λ r. passed r ≡ true → own r ≡ true → ⊥) (λ r. passed r ≡ true → (own r || false) ≡ true → ⊥) rows h.least (λ r g p k. g p (or_nothing (own r) k));
} where
  or_nothing : (b : Bool) → (b || false) ≡ true → b ≡ true
  or_nothing true h = refl
  or_nothing false h = absurd (cc)
own_or_above own passed rows (Some x) h = record {
  one = h.one;
  least = each (λ r. passed r ≡ true → own r ≡ true → x.number ≤ r.number) (λ r. passed r ≡ true → (own r || not (nat_le r.number x.number)) ≡ true → x.number ≤ r.number) rows h.least
      (λ r g p k. elim (or_cases (own r) (not (nat_le r.number x.number)) k) [ inl e ↦ g p e | inr e ↦ over_is r.number x.number e ]);
}

-- the first that is open up to the first of its own, or that one, is the first of all
pub open_or_own : (u : Unseen) (own : Option (List ℕ)) (passed : Row → Bool) (after : ℕ) (rows : List Row) (other : Option Row) → AreNumbered rows → AreOpenOr u (own_numbers own) passed rows
    → IsLeast (is_next passed after) (is_own own) rows other
    → lesser (find (is_next (is_before u (option_map number other) passed) after) rows) other ≡ find (is_next passed after) rows
open_or_own u own passed after rows other up opens g =
    least_first number (is_next passed after) (is_next passed after) rows both_found up.rising (λ r h. h)
    (least_among number (is_next passed after) (λ r. passed r ≡ true → kinds r ≡ true) kinds (is_next passed after) rows both_found opens narrow
    (least_of_both number (is_next passed after) near far kinds rows (find (is_next before after) rows) other split
    (found_least number (is_next passed after) (is_next before after) near rows up.rising sound full) (own_or_above (is_own own) (is_next passed after) rows other g))) where
      last : Option ℕ
      last = option_map number other

      before : Row → Bool
      before = is_before u last passed

      both_found : Option Row
      both_found = lesser (find (is_next before after) rows) other

      kinds : Row → Bool
      kinds r = is_open u r || is_own own r

      near : Row → Bool
      near r = is_within last r.number && is_open u r

      far : Row → Bool
      far r = is_own own r || not (is_within last r.number)

      narrow : (r : Row) → (passed r ≡ true → kinds r ≡ true) → is_next passed after r ≡ true → kinds r ≡ true
      narrow r p n = p (and_both (nat_lt after r.number) (passed r) n).1

      parted : (w o m : Bool) → (o || m) ≡ true → ((w && o) ≡ true) ⊎ ((m || not w) ≡ true)
      parted true o m h = elim (or_cases o m h) [ inl e ↦ inl e | inr e ↦ inr (or_left m false e) ]
      parted false o m h = inr (or_right m true refl)

      split : (r : Row) → kinds r ≡ true → (near r ≡ true) ⊎ (far r ≡ true)
      split r h = parted (is_within last r.number) (is_open u r) (is_own own r) h

      sound : (r : Row) → is_next before after r ≡ true → is_next passed after r ≡ true
      sound r n =
          let two = and_both (nat_lt after r.number) (before r) n in
          and_true (nat_lt after r.number) (passed r) two.0 (before_passed u last passed r two.1)

      full : (r : Row) → is_next passed after r ≡ true → near r ≡ true → is_next before after r ≡ true
      full r n o =
          let two = and_both (nat_lt after r.number) (passed r) n in
          and_true (nat_lt after r.number) (before r) two.0 (and_true (near r) (passed r) o two.1)
