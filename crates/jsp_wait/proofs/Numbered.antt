-- The request of a number, where it passes a test, and the numbers of those that do.
use Rattle.std.proofs.Common.{◌≡◌, ℕ, ◌<◌, Bool, true, false, cond, not, ◌&&◌, ◌||◌, List, [], ◌∷◌, map, Option, Some, None, refl, ap, sym, ◌∙◌, subst, arith, true≢false, is_some, is_none}
use Rattle.std.specs.Prelude.{find, filter, ◌==◌, Result, Ok, Err, IfOk}
use Rattle.std.specs.List.{AllByRecursion, list_any, list_all}
use Rattle.std.proofs.lemmas.Bool.{eq-eqb, ne_eqb, and_from}
use Rattle.jsp_types.specs.declared.class.Class.{Class}
use Rattle.jsp_types.specs.Matching.{matches}
use Rattle.jsp_model.specs.declared.state.Row.{Row}
use Rattle.jsp_model.specs.declared.state.Blocked.{Blocked}
use Rattle.jsp_model.specs.Sight.{is_if}
use Rattle.jsp_table.specs.Finding.{AreNumbered, AreNamed}
use Rattle.jsp_table.specs.Numbers.{contains}
use Rattle.jsp_keyed.proofs.Placed.{any_is}
use Rattle.jsp_keyed.proofs.Sought.{or_second, has_first}
use Rattle.jsp_keyed.proofs.Walking.{and_both, eqb_eq}
use Rattle.jsp_sight.specs.Rows.{wanted}
use Rattle.jsp_wait.specs.Offered.{waits_for}
use Rattle.jsp_wait.proofs.Least.{number}

-- ---- the request of a number

-- it, where it passes the test
abbrev pub picked : (Blocked → Bool) → Option Blocked → Option Blocked
picked p None = None
picked p (Some b) = cond (p b) (Some b) None

pub picks : (p : Blocked → Bool) (b : Blocked) → p b ≡ true → picked p (Some b) ≡ Some b
picks p b e = rw e refl

pub leaves : (p : Blocked → Bool) (b : Blocked) → p b ≡ false → picked p (Some b) ≡ None
leaves p b e = rw e refl

and_false : (c : Bool) → (c && false) ≡ false
and_false true = refl
and_false false = refl

none_above : (p q : Blocked → Bool) (n : ℕ) (xs : List Blocked) → AllByRecursion (λ y. n < number y) xs → find (λ b. q b && (n == b.number && p b)) xs ≡ None
none_above p q n [] h = refl
none_above p q n (x ∷ xs) h = rw (ne_eqb n x.number (λ e. apart e h.0), and_false (q x)) (none_above p q n xs h.1) where
  apart : {a b : ℕ} → a ≡ b → a < b → ⊥
  apart e l = omega (arith, e, l)

-- at most one has the number
pub narrowed : (p q : Blocked → Bool) (n : ℕ) (xs : List Blocked) → AreNumbered number xs → find (λ b. q b && (n == b.number && p b)) xs ≡ picked q (find (λ b. n == b.number && p b) xs)
narrowed p q n [] up = refl
narrowed p q n (x ∷ xs) up = at (n == x.number) refl (p x) (narrowed p q n xs up.1) where
  at : (c : Bool) → (n == x.number) ≡ c → (d : Bool) → find (λ b. q b && (n == b.number && p b)) xs ≡ picked q (find (λ b. n == b.number && p b) xs)
      → cond (q x && (c && d)) (Some x) (find (λ b. q b && (n == b.number && p b)) xs) ≡ picked q (cond (c && d) (Some x) (find (λ b. n == b.number && p b) xs))
  at true e true rest = last (q x) (none_above p q n xs (subst (λ m. AllByRecursion (λ y. m < number y) xs) (sym (eqb_eq n x.number e)) up.0)) where
    last : (b : Bool) → find (λ b. q b && (n == b.number && p b)) xs ≡ None → cond (b && true) (Some x) (find (λ b. q b && (n == b.number && p b)) xs) ≡ cond b (Some x) None
    last true k = refl
    last false k = k
  at true e false rest = rw (and_false (q x)) rest
  at false e d rest = rw (and_false (q x)) rest

-- who has the number and passes is the one that has it, if it passes
pub numbered_only : (p : Blocked → Bool) (n : ℕ) (xs : List Blocked) → AreNumbered number xs → find (λ b. n == b.number && p b) xs ≡ picked p (find (λ b. b.number == n) xs)
numbered_only p n [] up = refl
numbered_only p n (x ∷ xs) up = at (x.number == n) refl (numbered_only p n xs up.1) where
  apart : (x.number == n) ≡ false → n ≡ x.number → ⊥
  apart e k = true≢false (sym (eq-eqb x.number n (sym k)) ∙ e)

  at : (c : Bool) → (x.number == n) ≡ c → find (λ b. n == b.number && p b) xs ≡ picked p (find (λ b. b.number == n) xs)
      → cond (n == x.number && p x) (Some x) (find (λ b. n == b.number && p b) xs) ≡ picked p (cond c (Some x) (find (λ b. b.number == n) xs))
  at true e rest =
      let same : n ≡ x.number = sym (eqb_eq x.number n e) in
      rw (eq-eqb n x.number same) (last (p x) (none_above p (λ b. true) n xs (subst (λ m. AllByRecursion (λ y. m < number y) xs) (sym same) up.0))) where
        last : (b : Bool) → find (λ b. n == b.number && p b) xs ≡ None → cond b (Some x) (find (λ b. n == b.number && p b) xs) ≡ cond b (Some x) None
        last true k = refl
        last false k = k
  at false e rest = rw (ne_eqb n x.number (apart e)) rest

none_of : {A : Type 0} (o : Option A) → is_none o ≡ not (is_some o)
none_of None = refl
none_of (Some x) = refl

pub none_is : (p : Blocked → Bool) (xs : List Blocked) → is_none (find p xs) ≡ not (list_any p xs)
none_is p xs = none_of (find p xs) ∙ ap not (any_is p xs)

pub not_any : (a b : Bool) → a ≡ not b → a ≡ true → b ≡ false
not_any a true e k = absurd (true≢false (sym k ∙ e))
not_any a false e k = refl

-- ---- the numbers of those that pass

pub ok_weaker : {T E : Type 0} (r : Result T E) (P Q : T → Type 0) → ((t : T) → P t → Q t) → IfOk r P → IfOk r Q
ok_weaker (Ok t) P Q f h = f t h
ok_weaker (Err e) P Q f h = tt

-- all are named
pub all_named : (p : Blocked → Bool) (ns : List ℕ) (xs : List Blocked) → AreNamed number p ns xs → list_all (λ b. not (p b) || contains ns b.number) xs ≡ true
all_named p ns [] h = refl
all_named p ns (x ∷ xs) h = at (p x) refl (all_named p ns xs h.1) where
  at : (c : Bool) → p x ≡ c → list_all (λ b. not (p b) || contains ns b.number) xs ≡ true → ((not c || contains ns x.number) && list_all (λ b. not (p b) || contains ns b.number) xs) ≡ true
  at true e rest = rw (h.0 e) rest
  at false e rest = rest

within : (p : Blocked → Bool) (ns : List ℕ) (xs : List Blocked) → ((n : ℕ) → contains (map number (filter p xs)) n ≡ true → contains ns n ≡ true) → list_all (λ b. not (p b) || contains ns b.number) xs ≡ true
within p ns [] h = refl
within p ns (x ∷ xs) h = at (p x) h (within p ns xs) where
  at : (c : Bool) → ((n : ℕ) → contains (map number (cond c (x ∷ filter p xs) (filter p xs))) n ≡ true → contains ns n ≡ true)
      → (((n : ℕ) → contains (map number (filter p xs)) n ≡ true → contains ns n ≡ true) → list_all (λ b. not (p b) || contains ns b.number) xs ≡ true)
      → ((not c || contains ns x.number) && list_all (λ b. not (p b) || contains ns b.number) xs) ≡ true
  at true h rest = rw (h x.number (has_first (map number (filter p xs)) x.number x.number refl)) (rest (λ n k. h n (or_second (x.number == n) (contains (map number (filter p xs)) n) k)))
  at false h rest = rest h

pub all_listed : (p : Blocked → Bool) (xs : List Blocked) → list_all (λ b. not (p b) || contains (map number (filter p xs)) b.number) xs ≡ true
all_listed p xs = within p (map number (filter p xs)) xs (λ n k. k)

-- whoever waits for the row is at its space
pub none_waits : (classes : List Class) (row : Row) (ns : List ℕ) (xs : List Blocked) → list_any (λ b. b.space == row.space && is_if b.form) xs ≡ false → list_all (λ b. not (waits_for classes row b) || contains ns b.number) xs ≡ true
none_waits classes row ns [] h = refl
none_waits classes row ns (x ∷ xs) h = at (x.space == row.space && is_if x.form) refl h (none_waits classes row ns xs) where
  there : (w : Bool) → waits_for classes row x ≡ w → (x.space == row.space && is_if x.form) ≡ false → (not w || contains ns x.number) ≡ true
  there false e k = refl
  there true e k =
      let two = and_both (is_if x.form) (wanted classes x row) e in
      let here : row.space ≡ x.space = eqb_eq row.space x.space (and_both (row.space == x.space) (list_any (λ t. matches classes t row.entry) x.templates) two.1).0 in
      absurd (true≢false (sym (and_from (x.space == row.space) (is_if x.form) (eq-eqb x.space row.space (sym here)) two.0) ∙ k))

  at : (c : Bool) → (x.space == row.space && is_if x.form) ≡ c → (c || list_any (λ b. b.space == row.space && is_if b.form) xs) ≡ false
      → (list_any (λ b. b.space == row.space && is_if b.form) xs ≡ false → list_all (λ b. not (waits_for classes row b) || contains ns b.number) xs ≡ true)
      → ((not (waits_for classes row x) || contains ns x.number) && list_all (λ b. not (waits_for classes row b) || contains ns b.number) xs) ≡ true
  at true e k rest = absurd (true≢false k)
  at false e k rest = and_from (not (waits_for classes row x) || contains ns x.number) (list_all (λ b. not (waits_for classes row b) || contains ns b.number) xs) (there (waits_for classes row x) refl e) (rest k)
