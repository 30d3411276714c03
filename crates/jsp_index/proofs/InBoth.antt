-- Rows that two lists name, of which each is gone through from where the other goes on.
use Rattle.std.proofs.Common.{◌≡◌, ◌≢◌, ℕ, ◌-◌, ◌<◌, ◌≤◌, Bool, true, false, nat_lt, List, Option, Some, None, sym, subst, arith}
use Rattle.std.specs.Prelude.{find, nat_le}
use Rattle.std.specs.Option.{option_map_or}
use Rattle.std.specs.List.{AllByRecursion}
use Rattle.std.proofs.lemmas.Bool.Decides.{nat_tests}
use Rattle.jsp_model.specs.declared.state.Row.{Row}
use Rattle.jsp_table.specs.Numbers.{contains, AreIncreasing}
use Rattle.jsp_table.specs.Finding.{numbered, AreNamed, AreNumbered as AreRising}
use Rattle.jsp_table.proofs.Finding.{each, both, everywhere, found_number, Fails}
use Rattle.jsp_table.proofs.Next.{none_above, next_is_above}
use Rattle.jsp_index.specs.Finding.{number, is_next, IsLeast}
use Rattle.jsp_index.specs.Own.{is_within, AreAmong, AreWithin}
use Rattle.jsp_index.proofs.Covering.{and_both}
use Rattle.jsp_index.proofs.Narrowing.{and_true}
use Rattle.jsp_index.proofs.OwnRows.{next_up, all_fail}

less_is : (a b : ℕ) → nat_lt a b ≡ true → a < b
less_is a b h = grind (arith, nat_tests)

is_less : (a b : ℕ) → a < b → nat_lt a b ≡ true
is_less a b h = grind (arith, nat_tests)

-- what isn't above the last number, if one that is no less isn't
within_less : (last : Option ℕ) (n m : ℕ) → n ≤ m → is_within last m ≡ true → is_within last n ≡ true
within_less None n m le h = h
within_less (Some l) n m le h = at n m l le h where
  at : (a b c : ℕ) → a ≤ b → nat_le b c ≡ true → nat_le a c ≡ true
  at a b c p q = grind (arith, nat_tests)

module _ (passed : Row → Bool) (numbers own : List ℕ) (after : ℕ) (rows : List Row) where
  -- those that pass and that the list names stand above a number
  abbrev pub AreBeyond : ℕ → Type 0
  AreBeyond before = AllByRecursion (λ r. is_next passed after r ≡ true → contains numbers r.number ≡ true → before < r.number) rows

  pub beyond_at_first : AreBeyond after
  beyond_at_first = everywhere (λ r. is_next passed after r ≡ true → contains numbers r.number ≡ true → after < r.number) rows (λ r n k. less_is after r.number (and_both (nat_lt after r.number) (passed r) n).0)

  module _ (among : AreAmong own passed rows) (up : AreIncreasing own) where
    passes : (r : Row) → is_next passed after r ≡ true → passed r ≡ true
    passes r n = (and_both (nat_lt after r.number) (passed r) n).1

    -- they stand no lower than the next of its own
    reach : (before n : ℕ) → find (nat_lt before) own ≡ Some n → AreBeyond before
        → AllByRecursion (λ r. is_next passed after r ≡ true → contains numbers r.number ≡ true → n ≤ r.number) rows
    reach before n is over = both (λ r. passed r ≡ true → contains own r.number ≡ true) (λ r. is_next passed after r ≡ true → contains numbers r.number ≡ true → before < r.number) (λ r. is_next passed after r ≡ true → contains numbers r.number ≡ true → n ≤ r.number) rows among over
        (λ r o g m k. next_up own before n r.number up is (g m k) (o (passes r m)))

    -- none of its own is left
    pub ends_own : (before : ℕ) → find (nat_lt before) own ≡ None → AreBeyond before → (kind : Row → Bool) → AreNamed number kind numbers rows → IsLeast (is_next passed after) kind rows None
    ends_own before none over kind named = record {
      one = tt;
      least = both (λ r. kind r ≡ true → contains numbers r.number ≡ true) (λ r. is_next passed after r ≡ true → contains numbers r.number ≡ true → ⊥) (λ r. is_next passed after r ≡ true → kind r ≡ true → ⊥) rows named
          (both (λ r. passed r ≡ true → contains own r.number ≡ true) (λ r. is_next passed after r ≡ true → contains numbers r.number ≡ true → before < r.number) (λ r. is_next passed after r ≡ true → contains numbers r.number ≡ true → ⊥) rows among over
          (λ r o g m k. absurd (cc (o (passes r m), none_above own before r.number none (g m k)))))
          (λ r s g m k. g m (s k));
    }

    -- the next of its own is above the last number
    pub ends_above : (before n : ℕ) (last : Option ℕ) → find (nat_lt before) own ≡ Some n → is_within last n ≡ false → AreWithin last passed rows → AreBeyond before → (kind : Row → Bool) → AreNamed number kind numbers rows → IsLeast (is_next passed after) kind rows None
    ends_above before n last is out within over kind named = record {
      one = tt;
      least = both (λ r. kind r ≡ true → contains numbers r.number ≡ true) (λ r. is_next passed after r ≡ true → contains numbers r.number ≡ true → ⊥) (λ r. is_next passed after r ≡ true → kind r ≡ true → ⊥) rows named
          (both (λ r. passed r ≡ true → is_within last r.number ≡ true) (λ r. is_next passed after r ≡ true → contains numbers r.number ≡ true → n ≤ r.number) (λ r. is_next passed after r ≡ true → contains numbers r.number ≡ true → ⊥) rows within (reach before n is over)
          (λ r w g m k. absurd (cc (out, within_less last n r.number (g m k) (w (passes r m))))))
          (λ r s g m k. g m (s k));
    }

    -- the list has none from there on
    pub ends_list : (before n : ℕ) → find (nat_lt before) own ≡ Some n → find (nat_lt (n - 1)) numbers ≡ None → AreBeyond before → (kind : Row → Bool) → AreNamed number kind numbers rows → IsLeast (is_next passed after) kind rows None
    ends_list before n is none over kind named = record {
      one = tt;
      least = both (λ r. kind r ≡ true → contains numbers r.number ≡ true) (λ r. is_next passed after r ≡ true → contains numbers r.number ≡ true → n ≤ r.number) (λ r. is_next passed after r ≡ true → kind r ≡ true → ⊥) rows named (reach before n is over)
          (λ r s g m k. absurd (cc (s k, none_above numbers (n - 1) r.number none (back (next_is_above own before n is) (g m (s k))))));
    } where
      back : {a b c : ℕ} → a < b → b ≤ c → b - 1 < c
      back p q = omega arith

    -- the row of the next of its own, which the list names too, passes
    pub ends_here : (before n : ℕ) (o : Option Row) → find (nat_lt before) own ≡ Some n → after ≤ before → numbered number n rows ≡ o → option_map_or passed o false ≡ true → AreBeyond before
        → (kind : Row → Bool) → AreNamed number kind numbers rows → IsLeast (is_next passed after) kind rows o
    ends_here before n None is le there fits over kind named = absurd (cc (fits))
    ends_here before n (Some first) is le there fits over kind named =
        let same : first.number ≡ n = found_number number n rows first there in
        record {
          one = (and_true (nat_lt after first.number) (passed first) (is_less after first.number (further le (next_is_above own before n is) same)) fits, subst (λ (m : ℕ). numbered number m rows ≡ Some first) (sym same) there);
          least = both (λ r. kind r ≡ true → contains numbers r.number ≡ true) (λ r. is_next passed after r ≡ true → contains numbers r.number ≡ true → n ≤ r.number) (λ r. is_next passed after r ≡ true → kind r ≡ true → first.number ≤ r.number) rows named (reach before n is over)
              (λ r s g m k. subst (λ (w : ℕ). w ≤ r.number) (sym same) (g m (s k)));
        } where
          further : {a b c d : ℕ} → a ≤ b → b < c → d ≡ c → a < d
          further p q e = omega arith

    -- that row doesn't pass
    pub beyond_here : (before n : ℕ) → AreRising number rows → find (nat_lt before) own ≡ Some n → Fails number passed n rows → AreBeyond before → AreBeyond n
    beyond_here before n rise is fails over =
        both (λ r. r.number ≡ n → passed r ≡ false) (λ r. is_next passed after r ≡ true → contains numbers r.number ≡ true → n ≤ r.number) (λ r. is_next passed after r ≡ true → contains numbers r.number ≡ true → n < r.number) rows
        (all_fail passed own after rows n rise fails) (reach before n is over)
        (λ r f g m k. more (g m k) (λ e. absurd (cc (passes r m, f e)))) where
          more : {a b : ℕ} → a ≤ b → b ≢ a → a < b
          more p q = omega arith

    -- the list goes on above it
    pub beyond_next : (before n next : ℕ) → AreIncreasing numbers → find (nat_lt before) own ≡ Some n → find (nat_lt (n - 1)) numbers ≡ Some next → AreBeyond before → AreBeyond (next - 1)
    beyond_next before n next rising is more over =
        each (λ r. is_next passed after r ≡ true → contains numbers r.number ≡ true → n ≤ r.number) (λ r. is_next passed after r ≡ true → contains numbers r.number ≡ true → next - 1 < r.number) rows (reach before n is over)
        (λ r g m k. less (next_is_above numbers (n - 1) next more) (next_up numbers (n - 1) next r.number rising more (back (next_is_above own before n is) (g m k)) k)) where
          less : {a b c : ℕ} → a < b → b ≤ c → b - 1 < c
          less p q = omega arith

          back : {a b c : ℕ} → a < b → b ≤ c → b - 1 < c
          back p q = omega arith
