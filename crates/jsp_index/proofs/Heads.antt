-- Rows that are held at the head of a list, as rows and starts change.
use Rattle.std.proofs.Common.{◌≡◌, ℕ, zero, suc, ◌+◌, ◌-◌, ◌<◌, ◌≤◌, Bool, true, false, cond, ◌&&◌, eqb, nat_lt, List, [], ◌∷◌, ◌++◌, length, take, get_or, map, Option, Some, None, inl, inr, refl, ap, sym, ◌∙◌, subst, arith}
use Rattle.std.specs.Prelude.{filter, is_none, max, Result, Ok, Err, OnOk, OnErr}
use Rattle.std.specs.Option.{option_map_or}
use Rattle.std.specs.Map.{lookup}
use Rattle.std.specs.List.{AllByRecursion}
use Rattle.std.specs.Bool.{OnTrue}
use Rattle.std.specs.HashMap.{HashMap, hash_map_len}
use Rattle.std.proofs.lemmas.Bool.{eq-eqb}
use Rattle.std.proofs.lemmas.Bool.Decides.{nat_tests}
use Rattle.std.proofs.lemmas.List.{take_more}
use Rattle.jsp_model.specs.declared.state.Row.{Row}
use Rattle.jsp_model.specs.Lookup.{contains as has}
use Rattle.jsp_sight.specs.Rows.{with_reader}
use Rattle.jsp_table.specs.Numbers.{contains}
use Rattle.jsp_table.specs.Finding.{AreNamed}
use Rattle.jsp_table.proofs.Finding.{each, both, everywhere}
use Rattle.jsp_table.proofs.Rising.{or_cases}
use Rattle.jsp_keyed.specs.Finding.{IsUpTo, IsOneOf}
use Rattle.jsp_keyed.proofs.Named.{All-append}
use Rattle.jsp_index.specs.Finding.{number, row_numbered, is_next, IsLeast}
use Rattle.jsp_index.specs.Keys.{row_keys}
use Rattle.jsp_index.specs.Changing.{HasSameKeys}
use Rattle.jsp_index.specs.declared.starts.Unseen.{Unseen}
use Rattle.jsp_index.specs.declared.starts.Unseen.TheVariants.{Nothing, Taken, Hidden, Held}
use Rattle.jsp_index.specs.declared.starts.ListStart.{ListStart}
use Rattle.jsp_index.specs.Starts.{number_at, start_at}
use Rattle.jsp_index.specs.Passed.{is_untaken, is_public, is_free, is_open, AreAbove, IsAbove, ArePassed, AreLower, IsOverAll, AreListed}
use Rattle.jsp_index.proofs.Covering.{and_both, eqb_eq, same_keys}
use Rattle.jsp_index.proofs.Narrowing.{and_true}
use Rattle.jsp_index.proofs.Holders.{all_filtered}

is_lt : (a b : ℕ) → a < b → nat_lt a b ≡ true
is_lt a b h = grind (arith, nat_tests)

lt_is : (a b : ℕ) → nat_lt a b ≡ true → a < b
lt_is a b h = grind (arith, nat_tests)

pub second_all : {X : Type 0} (P : X → Type 0) (xs ys : List X) → AllByRecursion P (xs ++ ys) → AllByRecursion P ys
second_all P [] ys h = h
second_all P (x ∷ xs) ys h = second_all P xs ys h.1

pub one_at : {X : Type 0} (P : X → Type 0) (xs : List X) (i : ℕ) (x : X) → i < length xs → x ≡ get_or xs i x → AllByRecursion P xs → P x
one_at P [] i x lt is h = absurd (omega arith)
one_at P (y ∷ xs) zero x lt is h = subst P (sym is) h.0
one_at P (y ∷ xs) (suc i) x lt is h = one_at P xs i x (omega arith) is h.1

-- where no row has the number, all that have it are of any kind
pub none_of : (P : Row → Type 0) (n : ℕ) (rows : List Row) → row_numbered n rows ≡ None → AllByRecursion (λ r. r.number ≡ n → P r) rows
none_of P n [] h = tt
none_of P n (r ∷ rows) h = at (eqb r.number n) refl (none_of P n rows) where
  at : (b : Bool) → eqb r.number n ≡ b → (row_numbered n rows ≡ None → AllByRecursion (λ r. r.number ≡ n → P r) rows) → AllByRecursion (λ r. r.number ≡ n → P r) (r ∷ rows)
  at true e rest = absurd (cc (h, ap (λ b. cond b (Some r) (row_numbered n rows)) e))
  at false e rest = ((λ is. absurd (cc (eq-eqb r.number n is, e))), rest (ap (λ b. cond b (Some r) (row_numbered n rows)) (sym e) ∙ h))

pub found_positive : (n : ℕ) (rows : List Row) (r : Row) → row_numbered n rows ≡ Some r → AllByRecursion (λ r. 0 < r.number) rows → 0 < r.number
found_positive n [] r h pos = absurd (cc)
found_positive n (x ∷ rows) r h pos = at (eqb x.number n) refl (λ there. found_positive n rows r there pos.1) where
  same : {a b : Row} → Some a ≡ Some b → a ≡ b
  same e = cc

  at : (b : Bool) → eqb x.number n ≡ b → (row_numbered n rows ≡ Some r → 0 < r.number) → 0 < r.number
  at true e rest = subst (λ (w : Row). 0 < w.number) (same (ap (λ b. cond b (Some x) (row_numbered n rows)) (sym e) ∙ h)) pos.0
  at false e rest = rest (ap (λ b. cond b (Some x) (row_numbered n rows)) (sym e) ∙ h)

-- where nothing is kept, each key starts at 0
pub none_started : {S : Type 0} (starts : HashMap ℕ ListStart S) → starts.entries ≡ [] → (u : Unseen) (k : ℕ) → start_at u starts k ≡ 0
none_started starts none u k = ap (λ es. option_map_or (number_at u) (lookup (eqb k) es) 0) none

pub none_lower : {S : Type 0} (old new : HashMap ℕ ListStart S) → new.entries ≡ [] → AreLower old new
none_lower old new none u k = less (start_at u new k) (start_at u old k) (none_started new none u k) where
  less : (a b : ℕ) → a ≡ 0 → a ≤ b
  less a b e = omega arith

pub none_where_empty : {S : Type 0} (len : ℕ) (starts : HashMap ℕ ListStart S) → len ≡ hash_map_len starts → OnTrue (eqb len 0) ((u : Unseen) (k : ℕ) → start_at u starts k ≡ 0)
none_where_empty len starts is = at (eqb len 0) refl where
  nothing : {X : Type 0} (xs : List X) → length xs ≡ 0 → xs ≡ []
  nothing [] e = refl
  nothing (x ∷ xs) e = absurd (omega (arith, e))

  at : (b : Bool) → eqb len 0 ≡ b → OnTrue b ((u : Unseen) (k : ℕ) → start_at u starts k ≡ 0)
  at true e = λ u k. none_started starts (nothing starts.entries (sym is ∙ eqb_eq len 0 e)) u k
  at false e = tt

pub le_le : (a b d : ℕ) → a ≤ b → b ≤ d → a ≤ d
le_le a b d p q = omega arith

pub at_zero : (a b : ℕ) → a ≡ 0 → 0 < b → a < b
at_zero a b e h = omega arith

pub none_above_all : {S : Type 0} (seed : ℕ) (starts : HashMap ℕ ListStart S) (n : ℕ) (rows : List Row) → ((u : Unseen) (k : ℕ) → start_at u starts k ≡ 0) → AllByRecursion (λ r. 0 < r.number) rows → AllByRecursion (λ r. r.number ≡ n → IsOverAll seed starts r) rows
none_above_all seed starts n rows none pos = each (λ r. 0 < r.number) (λ r. r.number ≡ n → IsOverAll seed starts r) rows pos (λ r h e u k has. at_zero (start_at u starts k) r.number (none u k) h)

-- ---- starts that go down, and rows that leave, come and change

module _ (seed : ℕ) where
  pub above_still : (old new : ℕ → ℕ) (r : Row) → ((k : ℕ) → new k ≤ old k) → IsAbove seed old r → IsAbove seed new r
  above_still old new r down h k has = less (new k) (old k) r.number (down k) (h k has) where
    less : (a b c : ℕ) → a ≤ b → b < c → a < c
    less a b c p q = omega arith

  above_changed : (start : ℕ → ℕ) (r new : Row) → new.number ≡ r.number → row_keys seed new ≡ row_keys seed r → IsAbove seed start r → IsAbove seed start new
  above_changed start r new same keys h k has = subst (λ n. start k < n) (sym same) (h k (ap (λ w. contains w k) (sym keys) ∙ has))

  pub keys_kept : (r new : Row) → HasSameKeys r new → row_keys seed new ≡ row_keys seed r
  keys_kept r new same = (same_keys r new same).keys seed

  abbrev pub has_key : ℕ → Row → Bool
  has_key key r = contains (row_keys seed r) key

  pub after_each : (key : ℕ) (rows : List Row) (next : ListStart) → AreAbove (has_key key) is_untaken next.taken rows → AreAbove (has_key key) is_public next.hidden rows → AreAbove (has_key key) is_free next.held rows → AreAbove (has_key key) (λ r. true) 0 rows
      → (u : Unseen) → AreAbove (has_key key) (is_open u) (number_at u next) rows
  after_each key rows next a b c d Nothing = d
  after_each key rows next a b c d Taken = a
  after_each key rows next a b c d Hidden = b
  after_each key rows next a b c d Held = c

  module _ {S : Type 0} where
    pub passed_still : (old new : HashMap ℕ ListStart S) (rows : List Row) → AreLower old new → ArePassed seed old rows → ArePassed seed new rows
    passed_still old new rows down h u =
        each (λ r. is_open u r ≡ true → IsAbove seed (start_at u old) r) (λ r. is_open u r ≡ true → IsAbove seed (start_at u new) r) rows (h u) (λ r g o. above_still (start_at u old) (start_at u new) r (down u) (g o))

    pub over_more : (old new : HashMap ℕ ListStart S) (rows : List Row) (i : ℕ) (r : Row) → i < length rows → r ≡ get_or rows i r → AreLower old new → IsOverAll seed new r → AllByRecursion (IsOverAll seed old) (take i rows) → AllByRecursion (IsOverAll seed new) (take (i + 1) rows)
    over_more old new rows i r lt is down this h =
        let e : take (i + 1) rows ≡ take i rows ++ r ∷ [] = take_more rows i r lt ∙ ap (λ w. take i rows ++ w ∷ []) (sym is) in
        subst (AllByRecursion (IsOverAll seed new)) (sym e) (All-append (IsOverAll seed new) (take i rows) (r ∷ []) (each (IsOverAll seed old) (IsOverAll seed new) (take i rows) h (λ x g u. above_still (start_at u old) (start_at u new) x (down u) (g u))) (this, tt))

    module _ (starts : HashMap ℕ ListStart S) where
      pub passed_added : (rows things : List Row) → ArePassed seed starts rows → AllByRecursion (IsOverAll seed starts) things → ArePassed seed starts (rows ++ things)
      passed_added rows things h k u =
          All-append (λ r. is_open u r ≡ true → IsAbove seed (start_at u starts) r) rows things (h u) (each (IsOverAll seed starts) (λ r. is_open u r ≡ true → IsAbove seed (start_at u starts) r) things k (λ r g o. g u))

      pub passed_left : (q : Row → Bool) (rows : List Row) → ArePassed seed starts rows → ArePassed seed starts (filter q rows)
      passed_left q rows h u = all_filtered (λ r. is_open u r ≡ true → IsAbove seed (start_at u starts) r) q rows (h u)

      module _ (f : Row → Row) (n : ℕ) (same : (r : Row) → (f r).number ≡ r.number) (keys : (r : Row) → row_keys seed (f r) ≡ row_keys seed r) where
        changed_one : (u : Unseen) (rows : List Row) → AllByRecursion (λ r. r.number ≡ n → IsOverAll seed starts r) rows → AllByRecursion (λ r. is_open u r ≡ true → IsAbove seed (start_at u starts) r) rows → AllByRecursion (λ r. is_open u r ≡ true → IsAbove seed (start_at u starts) r) (map (λ (r : Row). cond (eqb r.number n) (f r) r) rows)
        changed_one u [] above h = tt
        changed_one u (r ∷ rows) above h = (at (eqb r.number n) refl, changed_one u rows above.1 h.1) where
          at : (b : Bool) → eqb r.number n ≡ b → is_open u (cond b (f r) r) ≡ true → IsAbove seed (start_at u starts) (cond b (f r) r)
          at true e o = above_changed (start_at u starts) r (f r) (same r) (keys r) (above.0 (eqb_eq r.number n e) u)
          at false e o = h.0 o

        -- the row that changes stands above its keys' starts
        pub passed_changed : (rows : List Row) → AllByRecursion (λ r. r.number ≡ n → IsOverAll seed starts r) rows → ArePassed seed starts rows → ArePassed seed starts (map (λ (r : Row). cond (eqb r.number n) (f r) r) rows)
        passed_changed rows above h u = changed_one u rows above (h u)

        kept_one : (u : Unseen) (rows : List Row) → ((r : Row) → is_open u (f r) ≡ true → is_open u r ≡ true) → AllByRecursion (λ r. is_open u r ≡ true → IsAbove seed (start_at u starts) r) rows → AllByRecursion (λ r. is_open u r ≡ true → IsAbove seed (start_at u starts) r) (map (λ (r : Row). cond (eqb r.number n) (f r) r) rows)
        kept_one u [] held h = tt
        kept_one u (r ∷ rows) held h = (at (eqb r.number n), kept_one u rows held h.1) where
          at : (b : Bool) → is_open u (cond b (f r) r) ≡ true → IsAbove seed (start_at u starts) (cond b (f r) r)
          at true o = above_changed (start_at u starts) r (f r) (same r) (keys r) (h.0 (held r o))
          at false o = h.0 o

        -- the row that changes is had only if it was
        pub passed_kept : (rows : List Row) → ((u : Unseen) (r : Row) → is_open u (f r) ≡ true → is_open u r ≡ true) → ArePassed seed starts rows → ArePassed seed starts (map (λ (r : Row). cond (eqb r.number n) (f r) r) rows)
        passed_kept rows held h u = kept_one u rows (held u) (h u)

    -- ---- a row stands above the starts of all its keys

    pub keys_more : (old new : HashMap ℕ ListStart S) (n i : ℕ) (keys : List ℕ) → AreLower old new → i < length keys → ((u : Unseen) → start_at u new (get_or keys i 0) < n) → AllByRecursion (λ k. (u : Unseen) → start_at u old k < n) (take i keys) → AllByRecursion (λ k. (u : Unseen) → start_at u new k < n) (take (i + 1) keys)
    keys_more old new n i keys down lt this h =
        rw (take_more keys i 0 lt) (All-append (λ k. (u : Unseen) → start_at u new k < n) (take i keys) (get_or keys i 0 ∷ []) (each (λ k. (u : Unseen) → start_at u old k < n) (λ k. (u : Unseen) → start_at u new k < n) (take i keys) h (λ k g u. less (start_at u new k) (start_at u old k) (down u k) (g u))) (this, tt)) where
          less : (a b : ℕ) → a ≤ b → b < n → a < n
          less a b p q = omega arith

    pub keys_above : (starts : HashMap ℕ ListStart S) (n : ℕ) (keys : List ℕ) → AllByRecursion (λ k. (u : Unseen) → start_at u starts k < n) keys → (u : Unseen) (k : ℕ) → contains keys k ≡ true → start_at u starts k < n
    keys_above starts n [] h u k has = absurd (cc)
    keys_above starts n (m ∷ keys) h u k has = elim (or_cases (eqb m k) (contains keys k) has) [
      | inl e ↦ subst (λ w. start_at u starts w < n) (eqb_eq m k e) (h.0 u)
      | inr e ↦ keys_above starts n keys h.1 u k e
    ]

    -- ---- a key starts further on

    module _ (old new : HashMap ℕ ListStart S) (key : ℕ) (rows : List Row) where
      raised_at : (next : ℕ) (u : Unseen) (r : Row) → ((k : ℕ) → start_at u new k ≡ cond (eqb k key) next (start_at u old k)) → (has_key key r ≡ true → next < r.number) → IsAbove seed (start_at u old) r → IsAbove seed (start_at u new) r
      raised_at next u r is p q k has = at (eqb k key) refl where
        at : (b : Bool) → eqb k key ≡ b → start_at u new k < r.number
        at true e = subst (λ w. w < r.number) (sym (is k ∙ ap (λ b. cond b next (start_at u old k)) e)) (p (ap (contains (row_keys seed r)) (sym (eqb_eq k key e)) ∙ has))
        at false e = subst (λ w. w < r.number) (sym (is k ∙ ap (λ b. cond b next (start_at u old k)) e)) (q k has)

      pub passed_raised : (next : ListStart) → ((u : Unseen) (k : ℕ) → start_at u new k ≡ cond (eqb k key) (number_at u next) (start_at u old k)) → ((u : Unseen) → AreAbove (has_key key) (is_open u) (number_at u next) rows) → ArePassed seed old rows → ArePassed seed new rows
      passed_raised next is further h u =
          both (λ r. has_key key r ≡ true → is_open u r ≡ true → number_at u next < r.number) (λ r. is_open u r ≡ true → IsAbove seed (start_at u old) r) (λ r. is_open u r ≡ true → IsAbove seed (start_at u new) r) rows (further u) (h u)
          (λ r p q o. raised_at (number_at u next) u r (is u) (λ has. p has o) (q o))

      -- or stays where memory was refused
      pub raised_or_not : {T E : Type 0} (next : ListStart) (set : Result T E) → OnOk set ((u : Unseen) (k : ℕ) → start_at u new k ≡ cond (eqb k key) (number_at u next) (start_at u old k)) → OnErr set ((u : Unseen) (k : ℕ) → start_at u new k ≡ start_at u old k)
          → ((u : Unseen) → AreAbove (has_key key) (is_open u) (number_at u next) rows) → ArePassed seed old rows → ArePassed seed new rows
      raised_or_not next (Ok v) is same further h = passed_raised next is further h
      raised_or_not next (Err e) is same further h = passed_still old new rows (λ u k. at_most (start_at u new k) (start_at u old k) (same u k)) h where
        at_most : (a b : ℕ) → a ≡ b → a ≤ b
        at_most a b e = omega arith

    -- the open ones that have a key stand above its start
    pub key_above : (starts : HashMap ℕ ListStart S) (key start : ℕ) (u : Unseen) (kind : Row → Bool) (rows : List Row) → start ≡ start_at u starts key → ((r : Row) → kind r ≡ true → has_key key r ≡ true) → ArePassed seed starts rows → AreAbove kind (is_open u) start rows
    key_above starts key start u kind rows is have h =
        each (λ r. is_open u r ≡ true → IsAbove seed (start_at u starts) r) (λ r. kind r ≡ true → is_open u r ≡ true → start < r.number) rows (h u) (λ r p k o. subst (λ w. w < r.number) (sym is) (p o key (have r k)))

-- ---- where none of a list can be had

pub everywhere_none : (numbers : List ℕ) (rows : List Row) → AreNamed number (λ r. false) numbers rows
everywhere_none numbers rows = everywhere (λ r. false ≡ true → contains numbers r.number ≡ true) rows (λ r h. absurd (cc (h)))

module _ (kind had : Row → Bool) (start : ℕ) (rows : List Row) where
  pub none_open : (next : ℕ) → AreAbove kind had start rows → IsLeast (is_next had start) kind rows None → AreAbove kind had next rows
  none_open next h none =
      both (λ r. kind r ≡ true → had r ≡ true → start < r.number) (λ r. is_next had start r ≡ true → kind r ≡ true → ⊥) (λ r. kind r ≡ true → had r ≡ true → next < r.number) rows h none.least
      (λ r p q k o. absurd (q (and_true (nat_lt start r.number) (had r) (is_lt start r.number (p k o)) o) k))

  pub first_open : (first : Row) → 0 < first.number → AreAbove kind had start rows → IsLeast (is_next had start) kind rows (Some first) → AreAbove kind had (first.number - 1) rows
  first_open first pos h found =
      both (λ r. kind r ≡ true → had r ≡ true → start < r.number) (λ r. is_next had start r ≡ true → kind r ≡ true → first.number ≤ r.number) (λ r. kind r ≡ true → had r ≡ true → first.number - 1 < r.number) rows h found.least
      (λ r p q k o. up first.number r.number pos (q (and_true (nat_lt start r.number) (had r) (is_lt start r.number (p k o)) o) k)) where
        up : (a b : ℕ) → 0 < a → a ≤ b → a - 1 < b
        up a b p q = omega arith

-- the open ones stand behind both, where whoever has a row might have it for the other
pub above_both : (kind had other : Row → Bool) (a b n : ℕ) (rows : List Row) → n ≡ max a b → ((r : Row) → had r ≡ true → other r ≡ true) → AreAbove kind had a rows → AreAbove kind other b rows → AreAbove kind had n rows
above_both kind had other a b n rows is also h k =
    both (λ r. kind r ≡ true → had r ≡ true → a < r.number) (λ r. kind r ≡ true → other r ≡ true → b < r.number) (λ r. kind r ≡ true → had r ≡ true → n < r.number) rows h k
    (λ r p q c o. less r.number (p c o) (q c (also r o))) where
      less : (m : ℕ) → a < m → b < m → n < m
      less m p q = omega (arith, is)

pub public_untaken : (r : Row) → is_public r ≡ true → is_untaken r ≡ true
public_untaken r h = (and_both (is_none r.writer) (is_untaken r) h).1

pub free_public : (r : Row) → is_free r ≡ true → is_public r ≡ true
free_public r h = (and_both (eqb (length r.readers) 0) (is_public r) h).1

-- ---- a row that is taken or read isn't had

pub taken_open : (x : ℕ) (u : Unseen) (r : Row) → is_open u (record r { taker = Some x }) ≡ true → is_open u r ≡ true
taken_open x Nothing r h = refl
taken_open x Taken r h = absurd (cc (h))
taken_open x Hidden r h = absurd (cc ((and_both (is_none r.writer) false h).1))
taken_open x Held r h = absurd (cc ((and_both (is_none r.writer) false (and_both (eqb (length r.readers) 0) (is_none r.writer && false) h).1).1))

pub ending_open : (end : ℕ) (u : Unseen) (r : Row) → is_open u (record r { end = end }) ≡ true → is_open u r ≡ true
ending_open end Nothing r h = refl
ending_open end Taken r h = h
ending_open end Hidden r h = h
ending_open end Held r h = h

pub reader_open : (x : ℕ) (u : Unseen) (r : Row) → is_open u (with_reader x r) ≡ true → is_open u r ≡ true
reader_open x Nothing r h = refl
reader_open x Taken r h = h
reader_open x Hidden r h = h
reader_open x Held r h = at (has r.readers x) (and_both (eqb (length (with_reader x r).readers) 0) (is_public r) h) where
  at : (b : Bool) → (eqb (length (cond b r.readers (r.readers ++ x ∷ []))) 0 ≡ true) × (is_public r ≡ true) → is_free r ≡ true
  at true two = and_true (eqb (length r.readers) 0) (is_public r) two.0 two.1
  at false two = absurd (longer r.readers (eqb_eq (length (r.readers ++ x ∷ [])) 0 two.0)) where
    longer : (readers : List ℕ) → length (readers ++ x ∷ []) ≡ 0 → ⊥
    longer [] e = absurd (omega (arith, e))
    longer (y ∷ readers) e = absurd (omega (arith, e))

-- ---- a search that begins behind rows that it can't have

module _ (passed kind had : Row → Bool) (numbers : List ℕ) (start before after : ℕ) (rows : List Row) (found : Option Row) where
  pub least_behind : before ≤ after → ((n : ℕ) → before < n → start < n → after < n) → AllByRecursion (λ r. passed r ≡ true → had r ≡ true) rows → AreListed kind had numbers start rows → IsLeast (is_next passed after) kind rows found → IsLeast (is_next passed before) kind rows found
  least_behind le further opens l h = record {
    one = one found h.one;
    least = both (λ r. kind r ≡ true → passed r ≡ true → start < r.number) (λ r. is_next passed after r ≡ true → kind r ≡ true → IsUpTo number found r.number) (λ r. is_next passed before r ≡ true → kind r ≡ true → IsUpTo number found r.number) rows seen h.least
        (λ r p q n k. let two = and_both (nat_lt before r.number) (passed r) n in
        q (and_true (nat_lt after r.number) (passed r) (is_lt after r.number (further r.number (lt_is before r.number two.0) (p k two.1))) two.1) k);
  } where
    seen : AllByRecursion (λ r. kind r ≡ true → passed r ≡ true → start < r.number) rows
    seen = both (λ r. passed r ≡ true → had r ≡ true) (λ r. kind r ≡ true → had r ≡ true → start < r.number) (λ r. kind r ≡ true → passed r ≡ true → start < r.number) rows opens l.above (λ r p q k o. q k (p o))

    open_one : (r : Row) → is_next passed after r ≡ true → is_next passed before r ≡ true
    open_one r n = let two = and_both (nat_lt after r.number) (passed r) n in and_true (nat_lt before r.number) (passed r) (is_lt before r.number (less before after r.number le (lt_is after r.number two.0))) two.1 where
      less : (a b c : ℕ) → a ≤ b → b < c → a < c
      less a b c p q = omega arith

    one : (o : Option Row) → IsOneOf number (is_next passed after) rows o → IsOneOf number (is_next passed before) rows o
    one None h = tt
    one (Some r) h = (open_one r h.0, h.1)
