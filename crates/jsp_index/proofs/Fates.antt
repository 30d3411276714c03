-- Rows to which a decision is applied.
use Rattle.std.proofs.Common.{◌≡◌, ◌≢◌, ℕ, Bool, true, false, cond, ◌&&◌, ◌||◌, eqb, List, [], ◌∷◌, map, Option, Some, None, option_and_then, refl, ap, sym, ◌∙◌, subst, inl, inr}
use Rattle.std.specs.Prelude.{find, option_map, ◌==◌}
use Rattle.std.specs.List.{AllByRecursion, filter_map, cons_option, list_any}
use Rattle.std.specs.HashMap.{HashMap}
use Rattle.std.proofs.lemmas.Bool.{cases_eq, eq-eqb, ne_eqb}
use Rattle.jsp_model.specs.declared.state.Row.{Row}
use Rattle.jsp_model.specs.Lookup.{is_caller}
use Rattle.jsp_sight.specs.Rows.{settled, undone, is_held}
use Rattle.jsp_table.specs.Numbers.{contains}
use Rattle.jsp_sight.specs.declared.deciding.Decision.{Decision}
use Rattle.jsp_index.specs.declared.holding.Holding.{Holding}
use Rattle.jsp_index.specs.Changing.{revised_by}
use Rattle.jsp_sight.specs.Deciding.{fate, covers, committed_row, aborted_row}
use Rattle.jsp_index.specs.Holding.{listed, listed_in, is_in, lists, Keeps, IsHeld, AreHeld}
use Rattle.jsp_index.proofs.Covering.{eqb_eq, and_both}
use Rattle.jsp_model.specs.Lookup.{contains as has}
use Rattle.jsp_sight.proofs.Unique.{or_parts}
use Rattle.jsp_index.proofs.Holders.{is_holding, lists_row, KeepsOthers, row_still_held, settled_once, undone_once, settled_held, undone_held, unheld_settled, unheld_undone}
use Rattle.jsp_index.proofs.Revisions.{compose}

-- ---- what is decided

abbrev pub decision_of : ℕ → Bool → Holding → Decision
decision_of x commits h = record { transaction = x; space = h.space; commits = commits }

pub all_alike : (x : ℕ) (commits : Bool) (hs : List Holding) → AllByRecursion (λ (d : Decision). (d.transaction ≡ x) × (d.commits ≡ commits)) (map (decision_of x commits) hs)
all_alike x commits [] = tt
all_alike x commits (h ∷ hs) = ((refl, refl), all_alike x commits hs)

-- the space of a list is covered
pub listed_covered : (x : ℕ) (commits : Bool) (hs : List Holding) (s n : ℕ) → is_in (listed_in hs s) n ≡ true → covers (map (decision_of x commits) hs) s ≡ true
listed_covered x commits [] s n is = absurd (cc)
listed_covered x commits (h ∷ hs) s n is = at (eqb h.space s) refl (listed_covered x commits hs s n) where
  at : (b : Bool) → eqb h.space s ≡ b → (is_in (listed_in hs s) n ≡ true → covers (map (decision_of x commits) hs) s ≡ true) → (eqb h.space s || covers (map (decision_of x commits) hs) s) ≡ true
  at true e rest = rw e refl
  at false e rest = rw e (rest (ap (λ b. is_in (option_map (λ (h : Holding). h.numbers) (cond b (Some h) (find (λ (h : Holding). h.space == s) hs))) n) (sym e) ∙ is))

-- ---- what becomes of the rows

pub all_stay : (P : Row → Type 0) (f : Row → Option Row) (rows : List Row) → AllByRecursion P rows → ((r : Row) → P r → f r ≡ Some r) → filter_map f rows ≡ rows
all_stay P f [] h same = refl
all_stay P f (r ∷ rows) h same = rw (same r h.0) (ap (λ w. r ∷ w) (all_stay P f rows h.1 same))

-- the row of one number is decided
abbrev pub decided_at : Decision → ℕ → Row → Option Row
decided_at d m r = cond (eqb r.number m) (fate d r) (Some r)

some_row : {a b : Row} → Some a ≡ Some b → a ≡ b
some_row e = cc

-- what is decided stays as it is then
once : (d : Decision) (r s : Row) → fate d r ≡ Some s → fate d s ≡ Some s
once d r s is = at (eqb r.space d.space) refl d.commits refl is where
  stays : (b : Bool) (o : Option Row) → o ≡ Some s → cond b o (Some s) ≡ Some s
  stays true o e = e
  stays false o e = refl

  at : (b : Bool) → eqb r.space d.space ≡ b → (k : Bool) → d.commits ≡ k → cond b (cond k (committed_row d.transaction r) (aborted_row d.transaction r)) (Some r) ≡ Some s → fate d s ≡ Some s
  at true e true f g = stays (eqb s.space d.space) _ (rw f (settled_once d.transaction r s g))
  at true e false f g = stays (eqb s.space d.space) _ (rw f (undone_once d.transaction r s g))
  at false e k f g = rw (ap (λ (q : Row). eqb q.space d.space) (sym (some_row g)) ∙ e) refl

again : (d : Decision) (r : Row) (o : Option Row) → fate d r ≡ o → option_and_then (fate d) o ≡ o
again d r None e = refl
again d r (Some s) e = once d r s e

pub decided_twice : (d : Decision) (rows : List Row) → filter_map (fate d) (filter_map (fate d) rows) ≡ filter_map (fate d) rows
decided_twice d rows = compose (fate d) (fate d) (fate d) rows (λ r. again d r (fate d r) refl)

-- all that is decided is so still where one row was first
pub decided_before : (d : Decision) (m : ℕ) (rows : List Row) → filter_map (fate d) (filter_map (decided_at d m) rows) ≡ filter_map (fate d) rows
decided_before d m rows = compose (decided_at d m) (fate d) (fate d) rows (λ r. at r (eqb r.number m)) where
  at : (r : Row) (b : Bool) → option_and_then (fate d) (cond b (fate d r) (Some r)) ≡ fate d r
  at r true = again d r (fate d r) refl
  at r false = refl

module _ {S : Type 0} where
  -- all but the list of one transaction in one space are there still
  abbrev pub KeepsRest : HashMap ℕ (List Holding) S → HashMap ℕ (List Holding) S → ℕ → ℕ → Type 0
  KeepsRest old new x space = (y s n : ℕ) → (eqb y x && eqb s space) ≡ false → lists old y s n ≡ true → lists new y s n ≡ true

  none_listed : (holders : HashMap ℕ (List Holding) S) (x space s n : ℕ) → listed holders x space ≡ None → s ≡ space → lists holders x s n ≡ false
  none_listed holders x space s n none here = ap (λ k. lists holders x k n) here ∙ ap (λ o. is_in o n) none

  pub unlisted_stays : (holders : HashMap ℕ (List Holding) S) (d : Decision) → listed holders d.transaction d.space ≡ None → (r : Row) → IsHeld holders r → fate d r ≡ Some r
  unlisted_stays holders d none r h = at (eqb r.space d.space) refl d.commits where
    at : (b : Bool) → eqb r.space d.space ≡ b → (k : Bool) → cond b (cond k (committed_row d.transaction r) (aborted_row d.transaction r)) (Some r) ≡ Some r
    at true e true = unheld_settled holders d.transaction r h (none_listed holders d.transaction d.space r.space r.number none (eqb_eq r.space d.space e))
    at true e false = unheld_undone holders d.transaction r h (none_listed holders d.transaction d.space r.space r.number none (eqb_eq r.space d.space e))
    at false e k = refl

  pub keeps_all : (old new : HashMap ℕ (List Holding) S) (x space : ℕ) → KeepsRest old new x space → listed old x space ≡ None → Keeps old new
  keeps_all old new x space keeps none y s n is = at (eqb y x) refl (eqb s space) refl where
    at : (a : Bool) → eqb y x ≡ a → (b : Bool) → eqb s space ≡ b → lists new y s n ≡ true
    at true e true f = absurd (cc (is, ap (λ k. lists old k s n) (eqb_eq y x e), none_listed old x space s n none (eqb_eq s space f)))
    at true e false f = keeps y s n (rw (e, f) refl) is
    at false e b f = keeps y s n (rw e refl) is

  -- ---- once rows of the list are as decided

  module _ (old new : HashMap ℕ (List Holding) S) (d : Decision) (others : KeepsOthers old new d.transaction) where
    committed_held : (r s : Row) → IsHeld old r → committed_row d.transaction r ≡ Some s → IsHeld new s
    committed_held r s h is = at (is_caller r.taker d.transaction) refl is where
      at : (b : Bool) → is_caller r.taker d.transaction ≡ b → cond b None (Some (settled d.transaction r)) ≡ Some s → IsHeld new s
      at true e g = absurd (cc)
      at false e g = subst (IsHeld new) (some_row g) (settled_held old new d.transaction others r e h)

    aborted_held : (r s : Row) → IsHeld old r → aborted_row d.transaction r ≡ Some s → IsHeld new s
    aborted_held r s h is = at (is_caller r.writer d.transaction) refl is where
      at : (b : Bool) → is_caller r.writer d.transaction ≡ b → cond b None (Some (undone d.transaction r)) ≡ Some s → IsHeld new s
      at true e g = absurd (cc)
      at false e g = subst (IsHeld new) (some_row g) (undone_held old new d.transaction others r e h)

    decided_held : (r s : Row) → IsHeld old r → cond d.commits (committed_row d.transaction r) (aborted_row d.transaction r) ≡ Some s → IsHeld new s
    decided_held r s h is = at d.commits is where
      at : (k : Bool) → cond k (committed_row d.transaction r) (aborted_row d.transaction r) ≡ Some s → IsHeld new s
      at true g = committed_held r s h g
      at false g = aborted_held r s h g

  -- the whole list is taken off
  module _ (old new : HashMap ℕ (List Holding) S) (d : Decision) (keeps : KeepsRest old new d.transaction d.space) where
    others : KeepsOthers old new d.transaction
    others k space n ne is = keeps k space n (rw (ne_eqb k d.transaction ne) refl) is

    elsewhere : (r : Row) → eqb r.space d.space ≡ false → IsHeld old r → IsHeld new r
    elsewhere r e = row_still_held old new r (λ y. keeps y r.space r.number (rw e (no (eqb y d.transaction)))) where
      no : (a : Bool) → (a && false) ≡ false
      no true = refl
      no false = refl

    one_held : (r s : Row) → IsHeld old r → fate d r ≡ Some s → IsHeld new s
    one_held r s h is = at (eqb r.space d.space) refl is where
      at : (b : Bool) → eqb r.space d.space ≡ b → cond b (cond d.commits (committed_row d.transaction r) (aborted_row d.transaction r)) (Some r) ≡ Some s → IsHeld new s
      at true e g = decided_held old new d others r s h g
      at false e g = subst (IsHeld new) (some_row g) (elsewhere r e h)

    pub held_applied : (rows : List Row) → AreHeld old rows → AreHeld new (filter_map (fate d) rows)
    held_applied [] h = tt
    held_applied (r ∷ rows) h = at (fate d r) refl (held_applied rows h.1) where
      at : (o : Option Row) → fate d r ≡ o → AreHeld new (filter_map (fate d) rows) → AreHeld new (cons_option o (filter_map (fate d) rows))
      at None e rest = rest
      at (Some s) e rest = (one_held r s h.0 e, rest)

  -- all but one number of one list are there still
  abbrev pub KeepsBut : HashMap ℕ (List Holding) S → HashMap ℕ (List Holding) S → ℕ → ℕ → ℕ → Type 0
  KeepsBut old new x space m = (y s n : ℕ) → (eqb y x && eqb s space && eqb n m) ≡ false → lists old y s n ≡ true → lists new y s n ≡ true

  -- one number is
  module _ (old new : HashMap ℕ (List Holding) S) (d : Decision) (m : ℕ) (keeps : KeepsBut old new d.transaction d.space m) where
    all_others : KeepsOthers old new d.transaction
    all_others k space n ne is = keeps k space n (rw (ne_eqb k d.transaction ne) refl) is

    another : (r : Row) → (eqb r.space d.space && eqb r.number m) ≡ false → IsHeld old r → IsHeld new r
    another r apart = row_still_held old new r (λ y. keeps y r.space r.number (no (eqb y d.transaction) (eqb r.space d.space) (eqb r.number m) apart)) where
      no : (a b c : Bool) → (b && c) ≡ false → (a && b && c) ≡ false
      no true b c h = h
      no false b c h = refl

    number_held : (r s : Row) → IsHeld old r → decided_at d m r ≡ Some s → IsHeld new s
    number_held r s h is = at (eqb r.number m) refl (eqb r.space d.space) refl is where
      neither : (a : Bool) → (a && false) ≡ false
      neither true = refl
      neither false = refl

      at : (a : Bool) → eqb r.number m ≡ a → (b : Bool) → eqb r.space d.space ≡ b → cond a (cond b (cond d.commits (committed_row d.transaction r) (aborted_row d.transaction r)) (Some r)) (Some r) ≡ Some s → IsHeld new s
      at true e true f g = decided_held old new d all_others r s h g
      at true e false f g = subst (IsHeld new) (some_row g) (another r (rw f refl) h)
      at false e b f g = subst (IsHeld new) (some_row g) (another r (rw e (neither (eqb r.space d.space))) h)

    pub held_at : (rows : List Row) → AreHeld old rows → AreHeld new (filter_map (decided_at d m) rows)
    held_at [] h = tt
    held_at (r ∷ rows) h = at (decided_at d m r) refl (held_at rows h.1) where
      at : (o : Option Row) → decided_at d m r ≡ o → AreHeld new (filter_map (decided_at d m) rows) → AreHeld new (cons_option o (filter_map (decided_at d m) rows))
      at None e rest = rest
      at (Some s) e rest = (number_held r s h.0 e, rest)

  -- where the transaction holds none, no list is wanted
  module _ (old new : HashMap ℕ (List Holding) S) (x space : ℕ) (keeps : KeepsRest old new x space) where
    free : (r : Row) → is_holding x space r ≡ false → IsHeld old r → IsHeld new r
    free r none h = record {
      by_writer = λ y is. keeps y r.space r.number (apart y (λ e. ap (λ b. b || is_caller r.taker x || has r.readers x) (called r.writer y x e is))) (h.by_writer y is);
      by_taker = λ y is. keeps y r.space r.number (apart y (λ e. ap (λ b. is_caller r.writer x || b || has r.readers x) (called r.taker y x e is) ∙ second (is_caller r.writer x) (has r.readers x))) (h.by_taker y is);
      by_reader = each_reader r.readers h.by_reader (λ y among. among);
    } where
      called : (holder : Option ℕ) (y x : ℕ) → y ≡ x → is_caller holder y ≡ true → is_caller holder x ≡ true
      called holder y x e is = ap (is_caller holder) (sym e) ∙ is

      second : (a c : Bool) → (a || true || c) ≡ true
      second true c = refl
      second false c = refl

      third : (a : Bool) → (a || true) ≡ true
      third true = refl
      third false = refl

      apart : (y : ℕ) → (y ≡ x → is_held x r ≡ true) → (eqb y x && eqb r.space space) ≡ false
      apart y held = at (eqb y x) refl (eqb r.space space) refl where
        at : (a : Bool) → eqb y x ≡ a → (b : Bool) → eqb r.space space ≡ b → (a && b) ≡ false
        at true e true f = absurd (cc (none, ap (λ b. b && is_held x r) f ∙ held (eqb_eq y x e)))
        at true e false f = refl
        at false e b f = refl

      each_reader : (ys : List ℕ) → AllByRecursion (λ y. lists old y r.space r.number ≡ true) ys → ((y : ℕ) → has ys y ≡ true → has r.readers y ≡ true) → AllByRecursion (λ y. lists new y r.space r.number ≡ true) ys
      each_reader [] k among = tt
      each_reader (y ∷ ys) k among = (
        keeps y r.space r.number (apart y (λ e. ap (λ b. (is_caller r.writer x || is_caller r.taker x) || b) (subst (λ z. has r.readers z ≡ true) e (among y (ap (λ b. b || has ys y) (eq-eqb y y refl)))) ∙ third (is_caller r.writer x || is_caller r.taker x))) k.0,
        each_reader ys k.1 (λ z is. among z (ap (λ b. eqb y z || b) is ∙ third (eqb y z))),
      )

    pub free_held : (rows : List Row) → list_any (is_holding x space) rows ≡ false → AreHeld old rows → AreHeld new rows
    free_held [] none h = tt
    free_held (r ∷ rows) none h = let parts = or_parts (is_holding x space r) (list_any (is_holding x space) rows) none in (free r parts.0 h.0, free_held rows parts.1 h.1)

  -- what the list doesn't name stays as it is
  pub unnamed_settled : (holders : HashMap ℕ (List Holding) S) (x space : ℕ) (ns : List ℕ) → Some ns ≡ listed holders x space → (r : Row) → IsHeld holders r → eqb r.space space ≡ true → contains ns r.number ≡ false → committed_row x r ≡ Some r
  unnamed_settled holders x space ns is r h here none = unheld_settled holders x r h (ap (λ k. lists holders x k r.number) (eqb_eq r.space space here) ∙ (ap (λ o. is_in o r.number) (sym is) ∙ none))

  pub unnamed_undone : (holders : HashMap ℕ (List Holding) S) (x space : ℕ) (ns : List ℕ) → Some ns ≡ listed holders x space → (r : Row) → IsHeld holders r → eqb r.space space ≡ true → contains ns r.number ≡ false → aborted_row x r ≡ Some r
  unnamed_undone holders x space ns is r h here none = unheld_undone holders x r h (ap (λ k. lists holders x k r.number) (eqb_eq r.space space here) ∙ (ap (λ o. is_in o r.number) (sym is) ∙ none))
