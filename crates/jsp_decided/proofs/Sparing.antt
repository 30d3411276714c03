-- Rows that no decision is about.
use Rattle.std.proofs.Common.{◌≡◌, ℕ, suc, ◌+◌, ◌<◌, Bool, true, false, not, cond, ◌&&◌, ◌||◌, eqb, List, [], ◌∷◌, ◌++◌, length, take, get_or, map, Option, Some, None, refl, ap, sym, ◌∙◌, subst, inl, inr, arith}
use Rattle.std.specs.Prelude.{◌==◌}
use Rattle.std.proofs.lemmas.Bool.{eq-eqb, eqb-true}
use Rattle.std.specs.List.{AllByRecursion, list_all}
use Rattle.jsp_model.specs.declared.state.Row.{Row}
use Rattle.jsp_model.specs.declared.state.Vote.{Vote}
use Rattle.jsp_model.specs.Lookup.{update, contains as has}
use Rattle.jsp_model.specs.Changes.{release, unread, is_not_changed}
use Rattle.jsp_sight.specs.Rows.{taken_row, with_reader}
use Rattle.jsp_table.proofs.Finding.{each, both}
use Rattle.jsp_table.proofs.Rising.{or_cases}
use Rattle.jsp_table.specs.Finding.{AreNumbered as AreRising}
use Rattle.jsp_keyed.proofs.Walking.{only_one}
use Rattle.jsp_decided.specs.declared.recorded.Recorded.{Recorded}
use Rattle.jsp_index.specs.Finding.{row_numbered}
use Rattle.jsp_decided.specs.Recording.{rows_after, covers}
use Rattle.jsp_index.proofs.Covering.{eqb_eq, and_both}
use Rattle.jsp_index.proofs.Revisions.{eqb_same, has_more}
use Rattle.jsp_decided.proofs.RowsAfter.{fate_keys, some_after, append_after, stay_after}

pub every : (P : Row → Type 0) → ((r : Row) → P r) → (rows : List Row) → AllByRecursion P rows
every P h [] = tt
every P h (r ∷ rows) = (h r, every P h rows)

pub none_about : (ds : List Recorded) (s : ℕ) → (length ds == 0) ≡ true → covers ds s ≡ false
none_about [] s h = refl
none_about (d ∷ ds) s h = absurd (above (length ds) (eqb-true (suc (length ds)) 0 h)) where
  above : (n : ℕ) → suc n ≡ 0 → ⊥
  above n e = omega arith

pub none_of_all : (q : Row → Bool) (rows : List Row) → list_all (λ r. not (q r)) rows ≡ true → AllByRecursion (λ r. q r ≡ false) rows
none_of_all q [] h = tt
none_of_all q (r ∷ rows) h = let parts = and_both (not (q r)) (list_all (λ r. not (q r)) rows) h in (is_not (q r) parts.0, none_of_all q rows parts.1) where
  is_not : (b : Bool) → not b ≡ true → b ≡ false
  is_not true g = absurd (cc)
  is_not false g = refl

-- ---- at a number

pub absent : (P : Row → Type 0) (n : ℕ) (rows : List Row) → row_numbered n rows ≡ None → AllByRecursion (λ (r : Row). r.number ≡ n → P r) rows
absent P n [] h = tt
absent P n (r ∷ rows) h = at (eqb r.number n) refl (absent P n rows) where
  at : (b : Bool) → eqb r.number n ≡ b → (row_numbered n rows ≡ None → AllByRecursion (λ (r : Row). r.number ≡ n → P r) rows) → (r.number ≡ n → P r) × AllByRecursion (λ (r : Row). r.number ≡ n → P r) rows
  at true e rest = absurd (cc (h, ap (λ b. cond b (Some r) (row_numbered n rows)) e))
  at false e rest = ((λ same. absurd (cc (e, eq-eqb r.number n same))), rest (ap (λ b. cond b (Some r) (row_numbered n rows)) (sym e) ∙ h))

pub one_spared : (ds : List Recorded) (n : ℕ) (rows : List Row) (row : Row) → AreRising (λ (r : Row). r.number) rows → row_numbered n rows ≡ Some row → covers ds row.space ≡ false → AllByRecursion (λ (r : Row). r.number ≡ n → covers ds r.space ≡ false) rows
one_spared ds n rows row up is none = each (λ (r : Row). r.number ≡ n → r ≡ row) (λ (r : Row). r.number ≡ n → covers ds r.space ≡ false) rows (only_one (λ (r : Row). r.number) n rows row up is)
    (λ r h same. ap (λ (r : Row). covers ds r.space) (h same) ∙ none)

pub one_spared_more : (ds : List Recorded) (ns : List ℕ) (i : ℕ) (rows : List Row) → i < length ns → AllByRecursion (λ (r : Row). has (take i ns) r.number ≡ true → covers ds r.space ≡ false) rows
    → AllByRecursion (λ (r : Row). r.number ≡ get_or ns i 0 → covers ds r.space ≡ false) rows → AllByRecursion (λ (r : Row). has (take (i + 1) ns) r.number ≡ true → covers ds r.space ≡ false) rows
one_spared_more ds ns i rows lt before this =
    both (λ (r : Row). has (take i ns) r.number ≡ true → covers ds r.space ≡ false) (λ (r : Row). r.number ≡ get_or ns i 0 → covers ds r.space ≡ false) (λ (r : Row). has (take (i + 1) ns) r.number ≡ true → covers ds r.space ≡ false) rows before this
    (λ r g h e. elim (or_cases (has (take i ns) r.number) (eqb (get_or ns i 0) r.number) (sym (has_more ns i r.number lt) ∙ e)) [
      | inl f ↦ g f
      | inr f ↦ h (sym (eqb_eq (get_or ns i 0) r.number f))
    ])

-- ---- what is done to rows that no decision is about

pub appended_after : (ds : List Recorded) (rows more : List Row) → AllByRecursion (λ (r : Row). covers ds r.space ≡ false) more → rows_after ds (rows ++ more) ≡ rows_after ds rows ++ more
appended_after ds rows more none = append_after ds rows more ∙ ap (λ w. rows_after ds rows ++ w) (stay_after ds more none)

pub released_after : (v : Vote) (x space : ℕ) (ds : List Recorded) (rows : List Row) → covers ds space ≡ false → rows_after ds (release v x space rows) ≡ release v x space (rows_after ds rows)
released_after v x space ds rows none =
    some_after (λ (r : Row). is_not_changed v && eqb r.space space) (unread x) (λ d r s is. ap (λ k. is_not_changed v && eqb k space) (fate_keys d r s is).space) (λ r. refl) ds rows
    (every (λ (r : Row). (is_not_changed v && eqb r.space space) ≡ true → covers ds r.space ≡ false)
    (λ r is. ap (covers ds) (eqb_eq r.space space (and_both (is_not_changed v) (eqb r.space space) is).1) ∙ none) rows)

pub taken_after : (x : ℕ) (ns : List ℕ) (ds : List Recorded) (rows : List Row) → AllByRecursion (λ (r : Row). has ns r.number ≡ true → covers ds r.space ≡ false) rows → rows_after ds (map (taken_row x ns) rows) ≡ map (taken_row x ns) (rows_after ds rows)
taken_after x ns ds rows none = some_after (λ (r : Row). has ns r.number) (λ (r : Row). record r { taker = Some x }) (λ d r s is. ap (has ns) (fate_keys d r s is).number) (λ r. refl) ds rows none

pub read_after : (n x : ℕ) (ds : List Recorded) (rows : List Row) → AllByRecursion (λ (r : Row). has (n ∷ []) r.number ≡ true → covers ds r.space ≡ false) rows
    → rows_after ds (update (λ (r : Row). r.number == n) (with_reader x) rows) ≡ update (λ (r : Row). r.number == n) (with_reader x) (rows_after ds rows)
read_after n x ds rows none =
    some_after (λ (r : Row). r.number == n) (with_reader x) (λ d r s is. ap (λ k. eqb k n) (fate_keys d r s is).number) (λ r. refl) ds rows
    (each (λ (r : Row). has (n ∷ []) r.number ≡ true → covers ds r.space ≡ false) (λ (r : Row). eqb r.number n ≡ true → covers ds r.space ≡ false) rows none
    (λ r h is. h (rw (eqb_same n r.number ∙ is) refl)))
