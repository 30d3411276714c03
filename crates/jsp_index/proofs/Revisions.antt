-- Rows revised one by one, as they are named.
use Rattle.std.proofs.Common.{◌≡◌, ◌≢◌, ℕ, ◌+◌, ◌<◌, ◌≤◌, Bool, true, false, not, cond, ◌&&◌, ◌||◌, eqb, nat_le, nat_lt, List, [], ◌∷◌, ◌++◌, length, take, get_or, map, Option, Some, None, option_and_then, inl, inr, ◌⊎◌, refl, ap, sym, ◌∙◌, arith}
use Rattle.std.specs.Prelude.{filter, find}
use Rattle.std.specs.List.{AllByRecursion, filter_map, cons_option}
use Rattle.std.proofs.lemmas.Bool.{cases_eq, cases_lt, cases_order, eq-eqb, ne_eqb}
use Rattle.std.proofs.lemmas.Bool.Decides.{nat_tests}
use Rattle.std.proofs.lemmas.List.{take_more}
use Rattle.jsp_model.specs.declared.state.Row.{Row}
use Rattle.jsp_model.specs.Lookup.{contains as has}
use Rattle.jsp_sight.specs.Rows.{taken_row}
use Rattle.jsp_table.specs.Numbers.{contains, AreIncreasing}
use Rattle.jsp_table.specs.Finding.{AreNumbered as AreRising}
use Rattle.jsp_table.proofs.Next.{none_between, none_above, next_is_above, next_is_there}
use Rattle.jsp_index.specs.Finding.{number, row_numbered}
use Rattle.jsp_index.specs.Changing.{revised_by, HasSameKeys}
use Rattle.jsp_index.proofs.Covering.{eqb_eq}
use Rattle.jsp_keyed.proofs.Walking.{only_one}

-- two revisions, one after the other
pub compose : {T : Type 0} (g h r : T → Option T) (xs : List T) → ((x : T) → option_and_then h (g x) ≡ r x) → filter_map h (filter_map g xs) ≡ filter_map r xs
compose g h r [] e = refl
compose {T = T} g h r (x ∷ xs) e = at (g x) (e x) (compose g h r xs e) where
  at : (o : Option T) → option_and_then h o ≡ r x → filter_map h (filter_map g xs) ≡ filter_map r xs → filter_map h (cons_option o (filter_map g xs)) ≡ cons_option (r x) (filter_map r xs)
  at None q rest = rw (← q) rest
  at (Some y) q rest = rw (← q) (ap (cons_option (h y)) rest)

module _ {T : Type 0} (num : T → ℕ) (f : T → Option T) where
  -- the thing of one number is revised
  abbrev pub revised_one : ℕ → T → Option T
  revised_one n x = cond (eqb (num x) n) (f x) (Some x)

  -- those that are named up to a number are
  abbrev pub revised_to : List ℕ → ℕ → T → Option T
  revised_to ns last x = cond (contains ns (num x) && nat_le (num x) last) (f x) (Some x)

up_to : (a b : ℕ) → a ≤ b → nat_le a b ≡ true
up_to a b h = grind (arith, nat_tests)

past : (a b : ℕ) → b < a → nat_le a b ≡ false
past a b h = grind (arith, nat_tests)

module _ {T : Type 0} (num : T → ℕ) (f : T → Option T) (keeps : (x y : T) → f x ≡ Some y → num y ≡ num x) where
  pub before_first : (ns : List ℕ) (xs : List T) → AllByRecursion (λ x. 0 < num x) xs → xs ≡ filter_map (revised_to num f ns 0) xs
  before_first ns [] h = refl
  before_first ns (x ∷ xs) h = rw (past (num x) 0 h.0, neither (contains ns (num x))) (ap (λ w. x ∷ w) (before_first ns xs h.1)) where
    neither : (b : Bool) → (b && false) ≡ false
    neither true = refl
    neither false = refl

  pub one_more : (ns : List ℕ) (last n : ℕ) (xs : List T) → AreIncreasing ns → find (nat_lt last) ns ≡ Some n → filter_map (revised_one num f n) (filter_map (revised_to num f ns last) xs) ≡ filter_map (revised_to num f ns n) xs
  one_more ns last n xs up is = compose (revised_to num f ns last) (revised_one num f n) (revised_to num f ns n) xs (λ x. at x (contains ns (num x)) refl) where
    other : (y : T) → num y ≢ n → revised_one num f n y ≡ Some y
    other y ne = rw (ne_eqb (num y) n ne) refl

    known : (x : T) (o : Option T) → f x ≡ o → num x ≢ n → option_and_then (revised_one num f n) o ≡ o
    known x None e ne = refl
    known x (Some y) e ne = other y (λ q. ne (sym (keeps x y e) ∙ q))

    over : {a : ℕ} → a ≡ n → last < n → last < a
    over e h = omega arith

    further : {a : ℕ} → n < a → last < n → last < a
    further h k = omega arith

    below : {a : ℕ} → a < n → a ≢ n
    below h e = omega arith

    above : {a : ℕ} → n < a → a ≢ n
    above h e = omega arith

    same : {a : ℕ} → a ≡ n → a ≤ n
    same e = omega arith

    less : {a : ℕ} → a < n → a ≤ n
    less h = omega arith

    there : (x : T) → contains ns (num x) ≡ true → (num x ≡ n) ⊎ ((num x < n) ⊎ (n < num x)) → option_and_then (revised_one num f n) (cond (nat_le (num x) last) (f x) (Some x)) ≡ cond (nat_le (num x) n) (f x) (Some x)
    there x e (inl q) = rw (past (num x) last (over q (next_is_above ns last n is)), up_to (num x) n (same q), eq-eqb (num x) n q) refl
    there x e (inr (inl h)) = elim (cases_lt last (num x)) [
      | inl between ↦ absurd (cc (e, none_between ns last n (num x) up is between h))
      | inr low ↦ rw (up_to (num x) last low, up_to (num x) n (less h)) (known x (f x) refl (below h))
    ]
    there x e (inr (inr h)) = rw (past (num x) last (further h (next_is_above ns last n is)), past (num x) n h) (other x (above h))

    at : (x : T) (b : Bool) → contains ns (num x) ≡ b → option_and_then (revised_one num f n) (revised_to num f ns last x) ≡ revised_to num f ns n x
    at x false e = rw e (other x (λ q. absurd (cc (e, ap (contains ns) q ∙ next_is_there ns last n is))))
    at x true e = rw e (there x e (cases_order (num x) n))

  -- those that aren't named stay as they are
  pub all_done : (ns : List ℕ) (last : ℕ) (xs : List T) → find (nat_lt last) ns ≡ None → AllByRecursion (λ x. contains ns (num x) ≡ false → f x ≡ Some x) xs → filter_map (revised_to num f ns last) xs ≡ filter_map f xs
  all_done ns last [] is h = refl
  all_done ns last (x ∷ xs) is h = cong (at (contains ns (num x)) refl) (all_done ns last xs is h.1) where
    cong : {o q : Option T} {us vs : List T} → o ≡ q → us ≡ vs → cons_option o us ≡ cons_option q vs
    cong e g = cc

    at : (b : Bool) → contains ns (num x) ≡ b → revised_to num f ns last x ≡ f x
    at true e = elim (cases_lt last (num x)) [
      | inl over ↦ absurd (cc (e, none_above ns last (num x) is over))
      | inr low ↦ rw (e, up_to (num x) last low) refl
    ]
    at false e = rw e (sym (h.0 e))

-- ---- at one number

module _ (gone : Row → Bool) (changed : Row → Row) (n : ℕ) where
  abbrev pub revised_at : Row → Option Row
  revised_at r = cond (eqb r.number n) (revised_by gone changed r) (Some r)

  pub none_at : (rows : List Row) → row_numbered n rows ≡ None → rows ≡ filter_map revised_at rows
  none_at [] h = refl
  none_at (x ∷ rows) h = at (eqb x.number n) refl (none_at rows) where
    at : (b : Bool) → eqb x.number n ≡ b → (row_numbered n rows ≡ None → rows ≡ filter_map revised_at rows) → x ∷ rows ≡ filter_map revised_at (x ∷ rows)
    at true e rest = absurd (cc (h, ap (λ b. cond b (Some x) (row_numbered n rows)) e))
    at false e rest = rw e (ap (λ w. x ∷ w) (rest (ap (λ b. cond b (Some x) (row_numbered n rows)) (sym e) ∙ h)))

  gone_here : (r : Row) → gone r ≡ true → (rows : List Row) → AllByRecursion (λ x. x.number ≡ n → x ≡ r) rows → filter (λ (x : Row). not (eqb x.number n)) rows ≡ filter_map revised_at rows
  gone_here r g [] h = refl
  gone_here r g (x ∷ rows) h = at (eqb x.number n) refl (gone_here r g rows h.1) where
    at : (b : Bool) → eqb x.number n ≡ b → filter (λ (x : Row). not (eqb x.number n)) rows ≡ filter_map revised_at rows → filter (λ (x : Row). not (eqb x.number n)) (x ∷ rows) ≡ filter_map revised_at (x ∷ rows)
    at true e rest = rw (e, ap gone (h.0 (eqb_eq x.number n e)) ∙ g) rest
    at false e rest = rw e (ap (λ w. x ∷ w) rest)

  pub goes_at : (rows : List Row) (r : Row) → AreRising (λ (r : Row). r.number) rows → row_numbered n rows ≡ Some r → gone r ≡ true → filter (λ (x : Row). not (eqb x.number n)) rows ≡ filter_map revised_at rows
  goes_at rows r up is g = gone_here r g rows (only_one number n rows r up is)

  stays_here : (r : Row) → gone r ≡ false → (rows : List Row) → AllByRecursion (λ x. x.number ≡ n → x ≡ r) rows → map (λ (x : Row). cond (eqb x.number n) (changed x) x) rows ≡ filter_map revised_at rows
  stays_here r g [] h = refl
  stays_here r g (x ∷ rows) h = at (eqb x.number n) refl (stays_here r g rows h.1) where
    at : (b : Bool) → eqb x.number n ≡ b → map (λ (x : Row). cond (eqb x.number n) (changed x) x) rows ≡ filter_map revised_at rows → map (λ (x : Row). cond (eqb x.number n) (changed x) x) (x ∷ rows) ≡ filter_map revised_at (x ∷ rows)
    at true e rest = rw (e, ap gone (h.0 (eqb_eq x.number n e)) ∙ g) (ap (λ w. changed x ∷ w) rest)
    at false e rest = rw e (ap (λ w. x ∷ w) rest)

  pub stays_at : (rows : List Row) (r : Row) → AreRising (λ (r : Row). r.number) rows → row_numbered n rows ≡ Some r → gone r ≡ false → map (λ (x : Row). cond (eqb x.number n) (changed x) x) rows ≡ filter_map revised_at rows
  stays_at rows r up is g = stays_here r g rows (only_one number n rows r up is)

-- ---- several leave, or are taken

pub eqb_same : (a b : ℕ) → eqb a b ≡ eqb b a
eqb_same a b = elim (cases_eq a b) [
  | inl e ↦ eq-eqb a b e ∙ sym (eq-eqb b a (sym e))
  | inr ne ↦ ne_eqb a b ne ∙ sym (ne_eqb b a (λ e. ne (sym e)))
]

has_end : (xs : List ℕ) (n m : ℕ) → has (xs ++ n ∷ []) m ≡ (has xs m || eqb n m)
has_end [] n m = last (eqb n m) where
  last : (b : Bool) → (b || false) ≡ b
  last true = refl
  last false = refl
has_end (x ∷ xs) n m = ap (λ b. eqb x m || b) (has_end xs n m) ∙ assoc (eqb x m) (has xs m) (eqb n m) where
  assoc : (a b c : Bool) → (a || (b || c)) ≡ ((a || b) || c)
  assoc true b c = refl
  assoc false b c = refl

pub has_more : (ns : List ℕ) (i m : ℕ) → i < length ns → has (take (i + 1) ns) m ≡ (has (take i ns) m || eqb (get_or ns i 0) m)
has_more ns i m lt = ap (λ w. has w m) (take_more ns i 0 lt) ∙ has_end (take i ns) (get_or ns i 0) m

pub start_left : (ns : List ℕ) (rows : List Row) → rows ≡ filter (λ (r : Row). not (has (take 0 ns) r.number)) rows
start_left ns [] = refl
start_left ns (r ∷ rows) = ap (λ w. r ∷ w) (start_left ns rows)

pub one_less : (ns : List ℕ) (i : ℕ) (rows : List Row) → i < length ns → filter (λ (r : Row). not (eqb r.number (get_or ns i 0))) (filter (λ (r : Row). not (has (take i ns) r.number)) rows) ≡ filter (λ (r : Row). not (has (take (i + 1) ns) r.number)) rows
one_less ns i [] lt = refl
one_less ns i (r ∷ rows) lt = at (has (take i ns) r.number) refl (eqb r.number (get_or ns i 0)) refl (one_less ns i rows lt) where
  at : (a : Bool) → has (take i ns) r.number ≡ a → (b : Bool) → eqb r.number (get_or ns i 0) ≡ b
      → filter (λ (r : Row). not (eqb r.number (get_or ns i 0))) (filter (λ (r : Row). not (has (take i ns) r.number)) rows) ≡ filter (λ (r : Row). not (has (take (i + 1) ns) r.number)) rows
      → filter (λ (r : Row). not (eqb r.number (get_or ns i 0))) (filter (λ (r : Row). not (has (take i ns) r.number)) (r ∷ rows)) ≡ filter (λ (r : Row). not (has (take (i + 1) ns) r.number)) (r ∷ rows)
  at true e b f rest = rw (has_more ns i r.number lt, e) rest
  at false e true f rest = rw (has_more ns i r.number lt, e, eqb_same (get_or ns i 0) r.number, f) rest
  at false e false f rest = rw (has_more ns i r.number lt, e, eqb_same (get_or ns i 0) r.number, f) (ap (λ w. r ∷ w) rest)

pub start_taken : (x : ℕ) (ns : List ℕ) (rows : List Row) → rows ≡ map (taken_row x (take 0 ns)) rows
start_taken x ns [] = refl
start_taken x ns (r ∷ rows) = ap (λ w. r ∷ w) (start_taken x ns rows)

pub one_taken : (x : ℕ) (ns : List ℕ) (i : ℕ) (rows : List Row) → i < length ns → map (λ (r : Row). cond (eqb r.number (get_or ns i 0)) (record r { taker = Some x }) r) (map (taken_row x (take i ns)) rows) ≡ map (taken_row x (take (i + 1) ns)) rows
one_taken x ns i [] lt = refl
one_taken x ns i (r ∷ rows) lt = both (at (has (take i ns) r.number) refl (eqb r.number (get_or ns i 0)) refl) (one_taken x ns i rows lt) where
  both : {a b : Row} {us vs : List Row} → a ≡ b → us ≡ vs → a ∷ us ≡ b ∷ vs
  both p q = cc

  at : (a : Bool) → has (take i ns) r.number ≡ a → (b : Bool) → eqb r.number (get_or ns i 0) ≡ b
      → cond (eqb (taken_row x (take i ns) r).number (get_or ns i 0)) (record (taken_row x (take i ns) r) { taker = Some x }) (taken_row x (take i ns) r) ≡ taken_row x (take (i + 1) ns) r
  at true e true f = rw (has_more ns i r.number lt, e, f) refl
  at true e false f = rw (has_more ns i r.number lt, e, f) refl
  at false e true f = rw (has_more ns i r.number lt, e, eqb_same (get_or ns i 0) r.number, f) refl
  at false e false f = rw (has_more ns i r.number lt, e, eqb_same (get_or ns i 0) r.number, f) refl

pub keeps_number : (gone : Row → Bool) (changed : Row → Row) → ((r : Row) → HasSameKeys r (changed r)) → (x y : Row) → revised_by gone changed x ≡ Some y → y.number ≡ x.number
keeps_number gone changed keys x y is = at (gone x) is where
  at : (b : Bool) → cond b None (Some (changed x)) ≡ Some y → y.number ≡ x.number
  at true e = absurd (cc)
  at false e = sym (ap (λ (r : Row). r.number) (some_row e)) ∙ (keys x).number where
    some_row : {a b : Row} → Some a ≡ Some b → a ≡ b
    some_row h = cc
