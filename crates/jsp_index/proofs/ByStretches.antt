-- The first that passes, found in one stretch of numbers after another.
use Rattle.std.proofs.Common.{◌≡◌, ℕ, ◌<◌, ◌≤◌, Bool, true, false, cond, ◌&&◌, eqb, nat_lt, List, [], ◌∷◌, Option, Some, None, Bor, option_copied, refl, ap, sym, ◌∙◌, subst, arith}
use Rattle.std.specs.Prelude.{find, nat_le, option_map, is_some}
use Rattle.std.specs.Option.{option_map_or}
use Rattle.std.specs.List.{AllByRecursion}
use Rattle.std.proofs.lemmas.Bool.Decides.{nat_tests}
use Rattle.jsp_model.specs.declared.state.Row.{Row}
use Rattle.jsp_table.specs.Numbers.{contains}
use Rattle.jsp_table.specs.Finding.{AreNumbered as AreRising}
use Rattle.jsp_table.proofs.Finding.{each, both, everywhere}
use Rattle.jsp_keyed.proofs.Least.{found_least}
use Rattle.jsp_index.specs.declared.starts.Unseen.{Unseen}
use Rattle.jsp_index.specs.Finding.{number, is_next, IsLeast, lesser}
use Rattle.jsp_index.specs.Numbered.{AreNumbered}
use Rattle.jsp_index.specs.Own.{is_own, is_within, AreAmong, AreWithin}
use Rattle.jsp_index.specs.Passed.{AreOpenOr}
use Rattle.jsp_index.proofs.Covering.{and_both}
use Rattle.jsp_index.proofs.Narrowing.{and_true}
use Rattle.jsp_index.proofs.OwnRows.{is_before, open_or_own}

less_is : (a b : ℕ) → nat_lt a b ≡ true → a < b
less_is a b h = grind (arith, nat_tests)

is_less : (a b : ℕ) → a < b → nat_lt a b ≡ true
is_less a b h = grind (arith, nat_tests)

not_less : (a b : ℕ) → nat_lt a b ≡ false → b ≤ a
not_less a b h = grind (arith, nat_tests)

is_le : (a b : ℕ) → a ≤ b → nat_le a b ≡ true
is_le a b h = grind (arith, nat_tests)

not_le : (a b : ℕ) → nat_le a b ≡ false → b < a
not_le a b h = grind (arith, nat_tests)

le_is : (a b : ℕ) → nat_le a b ≡ true → a ≤ b
le_is a b h = grind (arith, nat_tests)

module _ (passed : Row → Bool) (after : ℕ) where
  -- those that pass stand above a number
  abbrev pub AreBeyond : ℕ → List Row → Type 0
  AreBeyond from rows = AllByRecursion (λ r. is_next passed after r ≡ true → from < r.number) rows

  -- what passes, and isn't above the last number
  abbrev pub is_here : Option ℕ → Row → Bool
  is_here last r = is_within last r.number && passed r

  pub beyond_at_first : (rows : List Row) → AreBeyond after rows
  beyond_at_first rows = everywhere (λ r. is_next passed after r ≡ true → after < r.number) rows (λ r n. less_is after r.number (and_both (nat_lt after r.number) (passed r) n).0)

  -- what is found behind the number would be found before it
  sound : (from : ℕ) (last : Option ℕ) (r : Row) → after ≤ from → is_next (is_here last) from r ≡ true → is_next passed after r ≡ true
  sound from last r le n =
      let two = and_both (nat_lt from r.number) (is_here last r) n in
      and_true (nat_lt after r.number) (passed r) (is_less after r.number (further le (less_is from r.number two.0))) (and_both (is_within last r.number) (passed r) two.1).1 where
        further : {a b c : ℕ} → a ≤ b → b < c → a < c
        further p q = omega arith

  full : (from : ℕ) (last : Option ℕ) (r : Row) → from < r.number → is_within last r.number ≡ true → is_next passed after r ≡ true → is_next (is_here last) from r ≡ true
  full from last r lt within n =
      and_true (nat_lt from r.number) (is_here last r) (is_less from r.number lt) (and_true (is_within last r.number) (passed r) within (and_both (nat_lt after r.number) (passed r) n).1)

  -- nothing of a stretch stands above its last number
  none_above : (from l : ℕ) (rows : List Row) → AllByRecursion (λ r. l < r.number) rows → find (is_next (is_here (Some l)) from) rows ≡ None
  none_above from l [] over = refl
  none_above from l (r ∷ rows) over = rw (out (nat_le r.number l) refl) (none_above from l rows over.1) where
    out : (b : Bool) → nat_le r.number l ≡ b → is_next (is_here (Some l)) from r ≡ false
    out true e = absurd (apart over.0 (le_is r.number l e)) where
      apart : {a b : ℕ} → a < b → b ≤ a → ⊥
      apart p q = omega arith
    out false e = rw e (nothing (nat_lt from r.number)) where
      nothing : (c : Bool) → (c && false) ≡ false
      nothing true = refl
      nothing false = refl

  -- what a stretch holds is the first of all
  pub found_here : (from : ℕ) (last : Option ℕ) (rows : List Row) (x : Row) → AreRising number rows → after ≤ from → AreBeyond from rows
      → find (is_next (is_here last) from) rows ≡ Some x → find (is_next passed after) rows ≡ Some x
  found_here from last [] x up le over is = absurd (cc)
  found_here from last (r ∷ rows) x up le over is = at (is_next passed after r) refl (is_within last r.number) refl (found_here from last rows x up.1 le over.1) where
    at : (p : Bool) → is_next passed after r ≡ p → (w : Bool) → is_within last r.number ≡ w → (find (is_next (is_here last) from) rows ≡ Some x → find (is_next passed after) rows ≡ Some x) → cond p (Some r) (find (is_next passed after) rows) ≡ Some x
    at true e true f rest =
        let here : is_next (is_here last) from r ≡ true = full from last r (over.0 e) f e in
        ap (λ b. cond b (Some r) (find (is_next (is_here last) from) rows)) (sym here) ∙ is
    at true e false f rest = absurd (beyond last refl f)
      where
        beyond : (o : Option ℕ) → last ≡ o → is_within o r.number ≡ false → ⊥
        beyond None same g = absurd (cc)
        beyond (Some l) same g =
            let lt : l < r.number = not_le r.number l g in
            let none : find (is_next (is_here (Some l)) from) (r ∷ rows) ≡ None = none_above from l (r ∷ rows) (lt, each (λ y. r.number < y.number) (λ y. l < y.number) rows up.0 (λ y h. further lt h)) in
            absurd (cc (none, subst (λ (o : Option ℕ). find (is_next (is_here o) from) (r ∷ rows) ≡ Some x) same is)) where
              further : {a b c : ℕ} → a < b → b < c → a < c
              further p q = omega arith
    at false e w f rest = rest (skip (is_next (is_here last) from r) refl) where
      skip : (q : Bool) → is_next (is_here last) from r ≡ q → find (is_next (is_here last) from) rows ≡ Some x
      skip true g = absurd (cc (sound from last r le g, e))
      skip false g = ap (λ b. cond b (Some r) (find (is_next (is_here last) from) rows)) (sym g) ∙ is

  pub found_some : (from : ℕ) (last : Option ℕ) (rows : List Row) (o : Option (Bor Row)) → AreRising number rows → after ≤ from → AreBeyond from rows
      → option_copied o ≡ find (is_next (is_here last) from) rows → is_some o ≡ true → option_copied o ≡ find (is_next passed after) rows
  found_some from last rows None up le over is some = absurd (cc)
  found_some from last rows (Some x) up le over is some = sym (found_here from last rows x.now up le over (sym is))

  -- where a stretch holds nothing, all that pass stand above it
  pub none_here : (from l : ℕ) (rows : List Row) → AreBeyond from rows → find (is_next (is_here (Some l)) from) rows ≡ None → AreBeyond l rows
  none_here from l [] over none = tt
  none_here from l (r ∷ rows) over none = at (is_next (is_here (Some l)) from r) refl (none_here from l rows over.1) where
    at : (q : Bool) → is_next (is_here (Some l)) from r ≡ q → (find (is_next (is_here (Some l)) from) rows ≡ None → AreBeyond l rows) → AreBeyond l (r ∷ rows)
    at true e rest = absurd (cc (none, e))
    at false e rest = (λ n. above n (nat_le r.number l) refl, rest (ap (λ b. cond b (Some r) (find (is_next (is_here (Some l)) from) rows)) (sym e) ∙ none)) where
      above : is_next passed after r ≡ true → (b : Bool) → nat_le r.number l ≡ b → l < r.number
      above n true f = absurd (cc (full from (Some l) r (over.0 n) f n, e))
      above n false f = not_le r.number l f

  pub found_none : (from l : ℕ) (rows : List Row) (o : Option (Bor Row)) → AreBeyond from rows → option_copied o ≡ find (is_next (is_here (Some l)) from) rows → is_some o ≡ false → AreBeyond l rows
  found_none from l rows None over is none = none_here from l rows over (sym is)
  found_none from l rows (Some x) over is none = absurd (cc)

  -- and above what holds none of the space
  pub none_between : (space l to : ℕ) (rows : List Row) → ((r : Row) → passed r ≡ true → eqb r.space space ≡ true) → AreBeyond l rows
      → AllByRecursion (λ r. eqb r.space space ≡ true → l < r.number → to < r.number) rows → AreBeyond to rows
  none_between space l to rows inside over none =
      both (λ r. is_next passed after r ≡ true → l < r.number) (λ r. eqb r.space space ≡ true → l < r.number → to < r.number) (λ r. is_next passed after r ≡ true → to < r.number) rows over none
      (λ r g h n. h (inside r (and_both (nat_lt after r.number) (passed r) n).1) (g n))

  -- the last stretch has no end
  pub all_here : (from : ℕ) (rows : List Row) → after ≤ from → AreBeyond from rows → find (is_next (is_here None) from) rows ≡ find (is_next passed after) rows
  all_here from [] le over = refl
  all_here from (r ∷ rows) le over = rw (same, all_here from rows le over.1) refl where
    same : is_next (is_here None) from r ≡ is_next passed after r
    same = at (is_next passed after r) refl where
      at : (p : Bool) → is_next passed after r ≡ p → is_next (is_here None) from r ≡ p
      at true e = full from None r (over.0 e) refl e
      at false e = no (is_next (is_here None) from r) refl where
        no : (q : Bool) → is_next (is_here None) from r ≡ q → is_next (is_here None) from r ≡ false
        no true g = absurd (cc (sound from None r le g, e))
        no false g = g

-- ---- one stretch

module _ (passed : Row → Bool) (own : List ℕ) (from : ℕ) (rows : List Row) where
  -- the first of its own, found among these alone
  abbrev pub is_mine : Row → Bool
  is_mine r = contains own r.number && passed r

  pub mine_among : AreAmong own is_mine rows
  mine_among = everywhere (λ r. is_mine r ≡ true → contains own r.number ≡ true) rows (λ r h. (and_both (contains own r.number) (passed r) h).0)

  pub mine_passed : (r : Row) → is_mine r ≡ true → passed r ≡ true
  mine_passed r h = (and_both (contains own r.number) (passed r) h).1

  mine_least : AreRising number rows → IsLeast (is_next passed from) (is_own (Some own)) rows (find (is_next is_mine from) rows)
  mine_least up = found_least number (is_next passed from) (is_next is_mine from) (is_own (Some own)) rows up
      (λ r n. let two = and_both (nat_lt from r.number) (is_mine r) n in and_true (nat_lt from r.number) (passed r) two.0 (mine_passed r two.1))
      (λ r n k. let two = and_both (nat_lt from r.number) (passed r) n in and_true (nat_lt from r.number) (is_mine r) two.0 (and_true (contains own r.number) (passed r) k two.1))

  -- with what is open before it, it is the first of all
  pub mine_or_open : (u : Unseen) → AreNumbered rows → AreOpenOr u own passed rows
      → lesser (find (is_next (is_before u (option_map number (find (is_next is_mine from) rows)) passed) from) rows) (find (is_next is_mine from) rows) ≡ find (is_next passed from) rows
  mine_or_open u up opens = open_or_own u (Some own) passed from rows (find (is_next is_mine from) rows) up opens (mine_least up.rising)

-- what passes isn't above the last number
pub here_within : (last : Option ℕ) (passed : Row → Bool) (rows : List Row) → AreWithin last (λ r. is_within last r.number && passed r) rows
here_within last passed rows = everywhere (λ r. (is_within last r.number && passed r) ≡ true → is_within last r.number ≡ true) rows (λ r h. (and_both (is_within last r.number) (passed r) h).0)

-- nor above the one that was found, or the last number where none was
pub until_within : (u : Unseen) (last : Option ℕ) (passed : Row → Bool) (found : Option Row) (rows : List Row)
    → AreWithin (option_map_or (λ (r : Row). Some r.number) found last) (is_before u (option_map number found) (λ r. is_within last r.number && passed r)) rows
until_within u last passed None rows = everywhere (λ r. is_before u None (λ x. is_within last x.number && passed x) r ≡ true → is_within last r.number ≡ true) rows
    (λ r h. (and_both (is_within last r.number) (passed r) (and_both _ (is_within last r.number && passed r) h).1).0)
until_within u last passed (Some f) rows = everywhere (λ r. is_before u (Some f.number) (λ x. is_within last x.number && passed x) r ≡ true → is_within (Some f.number) r.number ≡ true) rows
    (λ r h. (and_both (is_within (Some f.number) r.number) _ (and_both _ (is_within last r.number && passed r) h).0).0)
