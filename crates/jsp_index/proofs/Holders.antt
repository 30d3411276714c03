-- Rows that transactions hold, and what becomes of them.
use Rattle.std.proofs.Common.{◌≡◌, ◌≢◌, ℕ, ◌+◌, ◌<◌, Bool, true, false, not, cond, ◌&&◌, ◌||◌, eqb, List, [], ◌∷◌, ◌++◌, length, take, get_or, Option, Some, None, refl, ap, sym, ◌∙◌, subst, inl, inr, eqb-true}
use Rattle.std.specs.Prelude.{filter, map, ◌==◌}
use Rattle.std.specs.List.{AllByRecursion, filter_map, cons_option, list_all}
use Rattle.std.specs.HashMap.{HashMap}
use Rattle.std.proofs.lemmas.List.{take_more}
use Rattle.std.proofs.lemmas.Bool.{cases_eq, eq-eqb, ne_eqb}
use Rattle.jsp_model.specs.declared.state.Row.{Row}
use Rattle.jsp_model.specs.declared.state.Vote.{Vote}
use Rattle.jsp_model.specs.Lookup.{is_caller, contains as has}
use Rattle.jsp_model.specs.Changes.{unread, committed, aborted, release, is_not_changed}
use Rattle.jsp_sight.specs.Rows.{settled, undone, with_reader, taken_row, row_ending, released_row, is_held}
use Rattle.jsp_table.proofs.Finding.{each, both}
use Rattle.jsp_index.specs.declared.holding.Holding.{Holding}
use Rattle.jsp_index.specs.Holding.{lists, Keeps, IsHeld, AreHeld}
use Rattle.jsp_index.specs.Changing.{revised_by, HasSameKeys, IsOnce}
use Rattle.jsp_keyed.proofs.Named.{All-append}
use Rattle.jsp_index.proofs.Revisions.{has_more}
use Rattle.jsp_index.proofs.Covering.{eqb_eq, and_both}
use Rattle.jsp_table.proofs.Rising.{or_cases}

abbrev pub is_publishing : ℕ → Row → Bool
is_publishing x r = is_caller r.writer x && not (is_caller r.taker x)

abbrev pub is_changing : ℕ → ℕ → Row → Bool
is_changing x space r = eqb r.space space && (is_caller r.writer x || is_caller r.taker x)

abbrev pub is_holding : ℕ → ℕ → Row → Bool
is_holding x space r = eqb r.space space && is_held x r

pub one_reader_more : (P Q : ℕ → Type 0) (xs : List ℕ) (i : ℕ) → i < length xs → ((x : ℕ) → P x → Q x) → AllByRecursion P (take i xs) → Q (get_or xs i 0) → AllByRecursion Q (take (i + 1) xs)
one_reader_more P Q xs i lt still h this = rw (take_more xs i 0 lt) (All-append Q (take i xs) (get_or xs i 0 ∷ []) (each P Q (take i xs) h still) (this, tt))

pub all_filtered : {X : Type 0} (P : X → Type 0) (q : X → Bool) (xs : List X) → AllByRecursion P xs → AllByRecursion P (filter q xs)
all_filtered P q [] h = tt
all_filtered P q (x ∷ xs) h = at (q x) (all_filtered P q xs h.1) where
  at : (b : Bool) → AllByRecursion P (filter q xs) → AllByRecursion P (cond b (x ∷ filter q xs) (filter q xs))
  at true rest = (h.0, rest)
  at false rest = rest

other_holder : (x y : ℕ) (holder : Option ℕ) → is_caller holder x ≡ false → is_caller holder y ≡ true → y ≢ x
other_holder x y holder none is e = absurd (cc (ap (is_caller holder) e, none, is))

-- ---- as they are defined

pub committed_is : (x : ℕ) (rows : List Row) → filter_map (revised_by (λ (r : Row). is_caller r.taker x) (settled x)) rows ≡ committed x rows
committed_is x [] = refl
committed_is x (row ∷ rows) = at (is_caller row.taker x) refl (committed_is x rows) where
  at : (b : Bool) → is_caller row.taker x ≡ b → filter_map (revised_by (λ (r : Row). is_caller r.taker x) (settled x)) rows ≡ committed x rows → filter_map (revised_by (λ (r : Row). is_caller r.taker x) (settled x)) (row ∷ rows) ≡ committed x (row ∷ rows)
  at true e rest = rw e rest
  at false e rest = rw e (ap (λ w. settled x row ∷ w) rest)

pub aborted_is : (x : ℕ) (rows : List Row) → filter_map (revised_by (λ (r : Row). is_caller r.writer x) (undone x)) rows ≡ aborted x rows
aborted_is x [] = refl
aborted_is x (row ∷ rows) = at (is_caller row.writer x) refl (aborted_is x rows) where
  at : (b : Bool) → is_caller row.writer x ≡ b → filter_map (revised_by (λ (r : Row). is_caller r.writer x) (undone x)) rows ≡ aborted x rows → filter_map (revised_by (λ (r : Row). is_caller r.writer x) (undone x)) (row ∷ rows) ≡ aborted x (row ∷ rows)
  at true e rest = rw e rest
  at false e rest = rw e (ap (λ w. undone x row ∷ w) rest)

pub released_is : (v : Vote) (x space : ℕ) (rows : List Row) → filter_map (revised_by (λ _. false) (released_row v x space)) rows ≡ release v x space rows
released_is v x space [] = refl
released_is v x space (row ∷ rows) = ap (λ w. released_row v x space row ∷ w) (released_is v x space rows)

pub not_released : (v : Vote) (x space : ℕ) (rows : List Row) → is_not_changed v ≡ false → rows ≡ release v x space rows
not_released v x space [] none = refl
not_released v x space (row ∷ rows) none = rw none (ap (λ w. row ∷ w) (not_released v x space rows none))

-- ---- what stays the same in a row that changes

pub unread_keys : (x : ℕ) (r : Row) → HasSameKeys r (unread x r)
unread_keys x r = record { number = refl; space = refl; entry = refl; end = refl }

pub settled_keys : (x : ℕ) (r : Row) → HasSameKeys r (settled x r)
settled_keys x r = at (is_caller r.writer x) where
  at : (b : Bool) → HasSameKeys r (unread x (cond b (record r { writer = None }) r))
  at true = record { number = refl; space = refl; entry = refl; end = refl }
  at false = record { number = refl; space = refl; entry = refl; end = refl }

pub undone_keys : (x : ℕ) (r : Row) → HasSameKeys r (undone x r)
undone_keys x r = at (is_caller r.taker x) where
  at : (b : Bool) → HasSameKeys r (unread x (cond b (record r { taker = None }) r))
  at true = record { number = refl; space = refl; entry = refl; end = refl }
  at false = record { number = refl; space = refl; entry = refl; end = refl }

pub released_keys : (v : Vote) (x space : ℕ) (r : Row) → HasSameKeys r (released_row v x space r)
released_keys v x space r = at (is_not_changed v && eqb r.space space) where
  at : (b : Bool) → HasSameKeys r (cond b (unread x r) r)
  at true = unread_keys x r
  at false = record { number = refl; space = refl; entry = refl; end = refl }

pub none_revised : (P : Row → Type 0) (gone : Row → Bool) (changed : Row → Row) (rows : List Row) → AllByRecursion P rows → ((r : Row) → P r → revised_by gone changed r ≡ Some r) → filter_map (revised_by gone changed) rows ≡ rows
none_revised P gone changed [] h same = refl
none_revised P gone changed (r ∷ rows) h same = rw (same r h.0) (ap (λ w. r ∷ w) (none_revised P gone changed rows h.1 same))

-- ---- what stays the same in a row that changes once more

unread_twice : (x : ℕ) (readers : List ℕ) → filter (λ y. not (eqb y x)) (filter (λ y. not (eqb y x)) readers) ≡ filter (λ y. not (eqb y x)) readers
unread_twice x [] = refl
unread_twice x (y ∷ readers) = at (not (eqb y x)) refl (unread_twice x readers) where
  at : (b : Bool) → not (eqb y x) ≡ b → filter (λ y. not (eqb y x)) (filter (λ y. not (eqb y x)) readers) ≡ filter (λ y. not (eqb y x)) readers
      → filter (λ y. not (eqb y x)) (cond b (y ∷ filter (λ y. not (eqb y x)) readers) (filter (λ y. not (eqb y x)) readers)) ≡ cond b (y ∷ filter (λ y. not (eqb y x)) readers) (filter (λ y. not (eqb y x)) readers)
  at true e rest = rw e (ap (λ w. y ∷ w) rest)
  at false e rest = rest

settled_twice : (x : ℕ) (r : Row) → settled x (settled x r) ≡ settled x r
settled_twice x r = at (is_caller r.writer x) refl where
  at : (b : Bool) → is_caller r.writer x ≡ b → settled x (unread x (cond b (record r { writer = None }) r)) ≡ unread x (cond b (record r { writer = None }) r)
  at true e = ap (λ (w : List ℕ). record r { writer = None; readers = w }) (unread_twice x r.readers)
  at false e = rw e (ap (λ (w : List ℕ). record r { readers = w }) (unread_twice x r.readers))

undone_twice : (x : ℕ) (r : Row) → undone x (undone x r) ≡ undone x r
undone_twice x r = at (is_caller r.taker x) refl where
  at : (b : Bool) → is_caller r.taker x ≡ b → undone x (unread x (cond b (record r { taker = None }) r)) ≡ unread x (cond b (record r { taker = None }) r)
  at true e = ap (λ (w : List ℕ). record r { taker = None; readers = w }) (unread_twice x r.readers)
  at false e = rw e (ap (λ (w : List ℕ). record r { readers = w }) (unread_twice x r.readers))

pub settled_taker : (x : ℕ) (r : Row) → (settled x r).taker ≡ r.taker
settled_taker x r = at (is_caller r.writer x) where
  at : (b : Bool) → (unread x (cond b (record r { writer = None }) r)).taker ≡ r.taker
  at true = refl
  at false = refl

pub undone_writer : (x : ℕ) (r : Row) → (undone x r).writer ≡ r.writer
undone_writer x r = at (is_caller r.taker x) where
  at : (b : Bool) → (unread x (cond b (record r { taker = None }) r)).writer ≡ r.writer
  at true = refl
  at false = refl

-- what stays though it was revised isn't gone then either
once : (gone : Row → Bool) (changed : Row → Row) → ((r : Row) → changed (changed r) ≡ changed r) → ((r : Row) → gone (changed r) ≡ gone r) → IsOnce (revised_by gone changed)
once gone changed twice same r new is = at (gone r) refl is where
  some_row : {a b : Row} → Some a ≡ Some b → a ≡ b
  some_row e = cc

  at : (b : Bool) → gone r ≡ b → cond b None (Some (changed r)) ≡ Some new → revised_by gone changed new ≡ Some new
  at true e h = absurd (cc)
  at false e h =
      let here : changed r ≡ new = some_row h in
      let stays : gone new ≡ false = ap gone (sym here) ∙ (same r ∙ e) in
      let same_row : changed new ≡ new = ap changed (sym here) ∙ (twice r ∙ here) in
      rw stays (ap Some same_row)

pub settled_once : (x : ℕ) → IsOnce (revised_by (λ (r : Row). is_caller r.taker x) (settled x))
settled_once x = once (λ (r : Row). is_caller r.taker x) (settled x) (settled_twice x) (λ r. ap (λ o. is_caller o x) (settled_taker x r))

pub undone_once : (x : ℕ) → IsOnce (revised_by (λ (r : Row). is_caller r.writer x) (undone x))
undone_once x = once (λ (r : Row). is_caller r.writer x) (undone x) (undone_twice x) (λ r. ap (λ o. is_caller o x) (undone_writer x r))

-- ---- marks of a transaction that isn't among those for which a row is listed

-- the readers of a row that isn't listed for x aren't x
readers_stay : (lists : ℕ → Bool) (x : ℕ) (readers : List ℕ) → AllByRecursion (λ y. lists y ≡ true) readers → lists x ≡ false → filter (λ y. not (eqb y x)) readers ≡ readers
readers_stay lists x [] h none = refl
readers_stay lists x (y ∷ readers) h none = elim (cases_eq y x) [
  | inl e ↦ absurd (cc (h.0, ap lists e, none))
  | inr ne ↦ rw (ne_eqb y x ne) (ap (λ w. y ∷ w) (readers_stay lists x readers h.1 none))
]

not_held : (lists : ℕ → Bool) (x : ℕ) (holder : Option ℕ) → (is_caller holder x ≡ true → lists x ≡ true) → lists x ≡ false → is_caller holder x ≡ false
not_held lists x holder h none = at (is_caller holder x) refl where
  at : (b : Bool) → is_caller holder x ≡ b → is_caller holder x ≡ false
  at true e = absurd (cc (h e, none))
  at false e = e

-- the other readers are listed without the transaction's own list
other_readers : (old new : ℕ → Bool) (x : ℕ) (readers : List ℕ) → ((k : ℕ) → k ≢ x → old k ≡ true → new k ≡ true) → AllByRecursion (λ y. old y ≡ true) readers → AllByRecursion (λ y. new y ≡ true) (filter (λ y. not (eqb y x)) readers)
other_readers old new x [] keeps h = tt
other_readers old new x (y ∷ readers) keeps h =
    let rest = other_readers old new x readers keeps h.1 in
    elim (cases_eq y x) [
      | inl e ↦ rw (eq-eqb y x e) rest
      | inr ne ↦ rw (ne_eqb y x ne) (keeps y ne h.0, rest)
    ]

is_reader : (lists : ℕ → Bool) (x : ℕ) (readers : List ℕ) → has readers x ≡ true → AllByRecursion (λ y. lists y ≡ true) readers → lists x ≡ true
is_reader lists x [] e h = absurd (cc)
is_reader lists x (y ∷ ys) e h = go (y == x) refl e (is_reader lists x ys)
  where
    go : (b : Bool) → (y == x) ≡ b → (b || has ys x) ≡ true → (has ys x ≡ true → AllByRecursion (λ y. lists y ≡ true) ys → lists x ≡ true) → lists x ≡ true
    go true k q ih = subst (λ z. lists z ≡ true) (eqb-true y x k) h.0
    go false k q ih = ih q h.1

module _ {S : Type 0} where
  -- for whom the row is listed
  abbrev pub lists_row : HashMap ℕ (List Holding) S → Row → ℕ → Bool
  lists_row holders row y = lists holders y row.space row.number

  pub row_still_held : (old new : HashMap ℕ (List Holding) S) (row : Row) → ((y : ℕ) → lists_row old row y ≡ true → lists_row new row y ≡ true) → IsHeld old row → IsHeld new row
  row_still_held old new row keeps h = record {
    by_writer = λ x e. keeps x (h.by_writer x e);
    by_taker = λ x e. keeps x (h.by_taker x e);
    by_reader = each (λ x. lists_row old row x ≡ true) (λ x. lists_row new row x ≡ true) row.readers h.by_reader keeps;
  }

  still_held : (old new : HashMap ℕ (List Holding) S) (row : Row) → Keeps old new → IsHeld old row → IsHeld new row
  still_held old new row keeps = row_still_held old new row (λ y. keeps y row.space row.number)

  pub all_still_held : (old new : HashMap ℕ (List Holding) S) (rows : List Row) → Keeps old new → AreHeld old rows → AreHeld new rows
  all_still_held old new rows keeps h = each (IsHeld old) (IsHeld new) rows h (λ row g. still_held old new row keeps g)

  pub held_more : (old new : HashMap ℕ (List Holding) S) (rows : List Row) (i : ℕ) (row : Row) → i < length rows → row ≡ get_or rows i row → Keeps old new → AreHeld old (take i rows) → IsHeld new row → AreHeld new (take (i + 1) rows)
  held_more old new rows i row lt is keeps h this =
      rw (take_more rows i row lt) (All-append (IsHeld new) (take i rows) (get_or rows i row ∷ []) (all_still_held old new (take i rows) keeps h) (rw (← is) this, tt))

  pub held_ending : (holders : HashMap ℕ (List Holding) S) (n end : ℕ) (rows : List Row) → AreHeld holders rows → AreHeld holders (map (row_ending n end) rows)
  held_ending holders n end [] h = tt
  held_ending holders n end (r ∷ rows) h = (at (eqb r.number n), held_ending holders n end rows h.1) where
    at : (b : Bool) → IsHeld holders (cond b (record r { end = end }) r)
    at true = record { by_writer = h.0.by_writer; by_taker = h.0.by_taker; by_reader = h.0.by_reader }
    at false = h.0

  read_held : (holders : HashMap ℕ (List Holding) S) (x : ℕ) (r : Row) → lists_row holders r x ≡ true → IsHeld holders r → IsHeld holders (with_reader x r)
  read_held holders x r listed h = record { by_writer = h.by_writer; by_taker = h.by_taker; by_reader = at (has r.readers x) } where
    at : (b : Bool) → AllByRecursion (λ y. lists_row holders r y ≡ true) (cond b r.readers (r.readers ++ x ∷ []))
    at true = h.by_reader
    at false = All-append (λ y. lists_row holders r y ≡ true) r.readers (x ∷ []) h.by_reader (listed, tt)

  pub held_read : (holders : HashMap ℕ (List Holding) S) (n x : ℕ) (rows : List Row) → AllByRecursion (λ (r : Row). r.number ≡ n → lists_row holders r x ≡ true) rows → AreHeld holders rows → AreHeld holders (map (λ (r : Row). cond (eqb r.number n) (with_reader x r) r) rows)
  held_read holders n x [] listed h = tt
  held_read holders n x (r ∷ rows) listed h = (at (eqb r.number n) refl, held_read holders n x rows listed.1 h.1) where
    at : (b : Bool) → eqb r.number n ≡ b → IsHeld holders (cond b (with_reader x r) r)
    at true e = read_held holders x r (listed.0 (eqb_eq r.number n e)) h.0
    at false e = h.0

  pub held_taken : (holders : HashMap ℕ (List Holding) S) (x : ℕ) (ns : List ℕ) (rows : List Row) → AllByRecursion (λ (r : Row). has ns r.number ≡ true → lists_row holders r x ≡ true) rows → AreHeld holders rows → AreHeld holders (map (taken_row x ns) rows)
  held_taken holders x ns [] listed h = tt
  held_taken holders x ns (r ∷ rows) listed h = (at (has ns r.number) refl, held_taken holders x ns rows listed.1 h.1) where
    at : (b : Bool) → has ns r.number ≡ b → IsHeld holders (cond b (record r { taker = Some x }) r)
    at true e = record { by_writer = h.0.by_writer; by_taker = λ y is. subst (λ (z : ℕ). lists_row holders r z ≡ true) (eqb_eq x y is) (listed.0 e); by_reader = h.0.by_reader }
    at false e = h.0

  -- those of one more number are listed
  pub listed_more : (old new : HashMap ℕ (List Holding) S) (x : ℕ) (ns : List ℕ) (i : ℕ) (rows : List Row) → i < length ns → Keeps old new → AllByRecursion (λ (r : Row). has (take i ns) r.number ≡ true → lists_row old r x ≡ true) rows
      → AllByRecursion (λ (r : Row). r.number ≡ get_or ns i 0 → lists_row new r x ≡ true) rows → AllByRecursion (λ (r : Row). has (take (i + 1) ns) r.number ≡ true → lists_row new r x ≡ true) rows
  listed_more old new x ns i rows lt keeps before this =
      both (λ (r : Row). has (take i ns) r.number ≡ true → lists_row old r x ≡ true) (λ (r : Row). r.number ≡ get_or ns i 0 → lists_row new r x ≡ true) (λ (r : Row). has (take (i + 1) ns) r.number ≡ true → lists_row new r x ≡ true) rows before this
      (λ r g h e. elim (or_cases (has (take i ns) r.number) (eqb (get_or ns i 0) r.number) (sym (has_more ns i r.number lt) ∙ e)) [
        | inl f ↦ keeps x r.space r.number (g f)
        | inr f ↦ h (sym (eqb_eq (get_or ns i 0) r.number f))
      ])

  pub held_revised : (old new : HashMap ℕ (List Holding) S) (gone : Row → Bool) (changed : Row → Row) (rows : List Row) → ((r : Row) → gone r ≡ false → IsHeld old r → IsHeld new (changed r)) → AreHeld old rows → AreHeld new (filter_map (revised_by gone changed) rows)
  held_revised old new gone changed [] stays h = tt
  held_revised old new gone changed (r ∷ rows) stays h = at (gone r) refl (held_revised old new gone changed rows stays h.1) where
    at : (b : Bool) → gone r ≡ b → AreHeld new (filter_map (revised_by gone changed) rows) → AreHeld new (cons_option (cond b None (Some (changed r))) (filter_map (revised_by gone changed) rows))
    at true e rest = rest
    at false e rest = (stays r e h.0, rest)

  -- all but what is listed for the transaction is listed still
  abbrev pub KeepsOthers : HashMap ℕ (List Holding) S → HashMap ℕ (List Holding) S → ℕ → Type 0
  KeepsOthers old new x = (k space n : ℕ) → k ≢ x → lists old k space n ≡ true → lists new k space n ≡ true

  pub settled_held : (old new : HashMap ℕ (List Holding) S) (x : ℕ) → KeepsOthers old new x → (r : Row) → is_caller r.taker x ≡ false → IsHeld old r → IsHeld new (settled x r)
  settled_held old new x keeps r e h = at (is_caller r.writer x) refl where
    readers : AllByRecursion (λ y. lists_row new r y ≡ true) (filter (λ y. not (eqb y x)) r.readers)
    readers = other_readers (lists_row old r) (lists_row new r) x r.readers (λ k. keeps k r.space r.number) h.by_reader

    at : (b : Bool) → is_caller r.writer x ≡ b → IsHeld new (unread x (cond b (record r { writer = None }) r))
    at true g = record {
      by_writer = λ y is. absurd (cc);
      by_taker = λ y is. keeps y r.space r.number (other_holder x y r.taker e is) (h.by_taker y is);
      by_reader = readers;
    }
    at false g = record {
      by_writer = λ y is. keeps y r.space r.number (other_holder x y r.writer g is) (h.by_writer y is);
      by_taker = λ y is. keeps y r.space r.number (other_holder x y r.taker e is) (h.by_taker y is);
      by_reader = readers;
    }

  pub undone_held : (old new : HashMap ℕ (List Holding) S) (x : ℕ) → KeepsOthers old new x → (r : Row) → is_caller r.writer x ≡ false → IsHeld old r → IsHeld new (undone x r)
  undone_held old new x keeps r e h = at (is_caller r.taker x) refl where
    readers : AllByRecursion (λ y. lists_row new r y ≡ true) (filter (λ y. not (eqb y x)) r.readers)
    readers = other_readers (lists_row old r) (lists_row new r) x r.readers (λ k. keeps k r.space r.number) h.by_reader

    at : (b : Bool) → is_caller r.taker x ≡ b → IsHeld new (unread x (cond b (record r { taker = None }) r))
    at true g = record {
      by_writer = λ y is. keeps y r.space r.number (other_holder x y r.writer e is) (h.by_writer y is);
      by_taker = λ y is. absurd (cc);
      by_reader = readers;
    }
    at false g = record {
      by_writer = λ y is. keeps y r.space r.number (other_holder x y r.writer e is) (h.by_writer y is);
      by_taker = λ y is. keeps y r.space r.number (other_holder x y r.taker g is) (h.by_taker y is);
      by_reader = readers;
    }

  pub released_held : (holders : HashMap ℕ (List Holding) S) (v : Vote) (x space : ℕ) (r : Row) → IsHeld holders r → IsHeld holders (released_row v x space r)
  released_held holders v x space r h = at (is_not_changed v && eqb r.space space) where
    at : (b : Bool) → IsHeld holders (cond b (unread x r) r)
    at true = record { by_writer = h.by_writer; by_taker = h.by_taker; by_reader = all_filtered (λ y. lists_row holders r y ≡ true) (λ y. not (eqb y x)) r.readers h.by_reader }
    at false = h

  -- ---- rows that a transaction doesn't hold

  pub unheld_settled : (holders : HashMap ℕ (List Holding) S) (x : ℕ) (r : Row) → IsHeld holders r → lists_row holders r x ≡ false → revised_by (λ (r : Row). is_caller r.taker x) (settled x) r ≡ Some r
  unheld_settled holders x r h none =
      let taker = not_held (lists_row holders r) x r.taker (h.by_taker x) none in
      let writer = not_held (lists_row holders r) x r.writer (h.by_writer x) none in
      let readers = readers_stay (lists_row holders r) x r.readers h.by_reader none in
      rw (taker, writer) (ap (λ (w : List ℕ). Some (record r { readers = w })) readers)

  pub unheld_undone : (holders : HashMap ℕ (List Holding) S) (x : ℕ) (r : Row) → IsHeld holders r → lists_row holders r x ≡ false → revised_by (λ (r : Row). is_caller r.writer x) (undone x) r ≡ Some r
  unheld_undone holders x r h none =
      let taker = not_held (lists_row holders r) x r.taker (h.by_taker x) none in
      let writer = not_held (lists_row holders r) x r.writer (h.by_writer x) none in
      let readers = readers_stay (lists_row holders r) x r.readers h.by_reader none in
      rw (writer, taker) (ap (λ (w : List ℕ). Some (record r { readers = w })) readers)

  pub unheld_released : (holders : HashMap ℕ (List Holding) S) (v : Vote) (x space : ℕ) (r : Row) → IsHeld holders r → lists holders x space r.number ≡ false → revised_by (λ _. false) (released_row v x space) r ≡ Some r
  unheld_released holders v x space r h none = at (is_not_changed v && eqb r.space space) refl where
    at : (b : Bool) → (is_not_changed v && eqb r.space space) ≡ b → Some (cond b (unread x r) r) ≡ Some r
    at true e =
        let here : r.space ≡ space = eqb_eq r.space space (and_both (is_not_changed v) (eqb r.space space) e).1 in
        ap (λ (w : List ℕ). Some (record r { readers = w })) (readers_stay (lists_row holders r) x r.readers h.by_reader (ap (λ s. lists holders x s r.number) here ∙ none))
    at false e = refl

  -- a row that a transaction holds is listed for it
  pub held_listed : (holders : HashMap ℕ (List Holding) S) (x : ℕ) (r : Row) → IsHeld holders r → is_held x r ≡ true → lists_row holders r x ≡ true
  held_listed holders x r h is = elim (or_cases (is_caller r.writer x || is_caller r.taker x) (has r.readers x) is) [
    | inl e ↦ elim (or_cases (is_caller r.writer x) (is_caller r.taker x) e) [
      | inl f ↦ h.by_writer x f
      | inr f ↦ h.by_taker x f
    ]
    | inr e ↦ is_reader (λ y. lists_row holders r y) x r.readers e h.by_reader
  ]

  pub publishing_listed : (holders : HashMap ℕ (List Holding) S) (x : ℕ) (r : Row) → IsHeld holders r → is_publishing x r ≡ true → lists_row holders r x ≡ true
  publishing_listed holders x r h p = h.by_writer x (and_both (is_caller r.writer x) (not (is_caller r.taker x)) p).0

  pub publishing_none : (holders : HashMap ℕ (List Holding) S) (x : ℕ) (r : Row) → IsHeld holders r → lists_row holders r x ≡ false → is_publishing x r ≡ false
  publishing_none holders x r h none = rw (not_held (lists_row holders r) x r.writer (h.by_writer x) none) refl

  pub changing_listed : (holders : HashMap ℕ (List Holding) S) (x space : ℕ) (r : Row) → IsHeld holders r → is_changing x space r ≡ true → lists holders x space r.number ≡ true
  changing_listed holders x space r h p =
      let two = and_both (eqb r.space space) (is_caller r.writer x || is_caller r.taker x) p in
      let here : lists_row holders r x ≡ true = elim (or_cases (is_caller r.writer x) (is_caller r.taker x) two.1) [
        | inl e ↦ h.by_writer x e
        | inr e ↦ h.by_taker x e
      ] in
      subst (λ s. lists holders x s r.number ≡ true) (eqb_eq r.space space two.0) here

  pub holding_listed : (holders : HashMap ℕ (List Holding) S) (x space : ℕ) (r : Row) → IsHeld holders r → is_holding x space r ≡ true → lists holders x space r.number ≡ true
  holding_listed holders x space r h p =
      let two = and_both (eqb r.space space) (is_held x r) p in
      subst (λ s. lists holders x s r.number ≡ true) (eqb_eq r.space space two.0) (held_listed holders x r h two.1)

  pub holding_none : (holders : HashMap ℕ (List Holding) S) (x space : ℕ) (r : Row) → IsHeld holders r → lists holders x space r.number ≡ false → is_holding x space r ≡ false
  holding_none holders x space r h none = at (is_holding x space r) refl where
    at : (b : Bool) → is_holding x space r ≡ b → is_holding x space r ≡ false
    at true e = absurd (cc (holding_listed holders x space r h e, none))
    at false e = e

  pub changing_none : (holders : HashMap ℕ (List Holding) S) (x space : ℕ) (r : Row) → IsHeld holders r → lists holders x space r.number ≡ false → is_changing x space r ≡ false
  changing_none holders x space r h none = at (is_changing x space r) refl where
    at : (b : Bool) → is_changing x space r ≡ b → is_changing x space r ≡ false
    at true e = absurd (cc (changing_listed holders x space r h e, none))
    at false e = e

-- ---- the numbers of what a transaction holds

-- p are the rows in question
module _ {S : Type 0} (holders : HashMap ℕ (List Holding) S) (x : ℕ) (ns : List ℕ) (p : Row → Bool) (all : (r : Row) → p r ≡ true → lists holders x r.space r.number ≡ true → has ns r.number ≡ true) where
  held_one : (r : Row) → IsHeld holders r → (not (p r && is_held x r) || has ns r.number) ≡ true
  held_one r h = go (p r) refl (is_caller r.writer x) refl (is_caller r.taker x) refl (has r.readers x) refl
    where
      go : (q : Bool) → p r ≡ q → (a : Bool) → is_caller r.writer x ≡ a → (b : Bool) → is_caller r.taker x ≡ b → (d : Bool) → has r.readers x ≡ d → (not (q && (a || b || d)) || has ns r.number) ≡ true
      go false k a e b f d g = refl
      go true k true e b f d g = all r k (h.by_writer x e)
      go true k false e true f d g = all r k (h.by_taker x f)
      go true k false e false f true g = all r k (is_reader (λ y. lists holders y r.space r.number) x r.readers g h.by_reader)
      go true k false e false f false g = refl

  pub held_all : (rows : List Row) → AreHeld holders rows → list_all (λ (r : Row). not (p r && is_held x r) || has ns r.number) rows ≡ true
  held_all [] h = refl
  held_all (r ∷ rows) h = rw (held_one r h.0) (held_all rows h.1)
