-- What who searches may have, who may hold rows itself.
use Rattle.std.proofs.Common.{◌≡◌, ℕ, Bool, true, false, cond, ◌&&◌, ◌||◌, eqb, List, [], ◌∷◌, length, Option, Some, None, Bor, option_copied, refl, ap, sym, ◌∙◌, subst, arith}
use Rattle.std.specs.Prelude.{is_none, IfSome, IfNone}
use Rattle.std.specs.List.{AllByRecursion, list_all}
use Rattle.std.specs.HashMap.{HashMap}
use Rattle.std.proofs.lemmas.Bool.{eq-eqb}
use Rattle.std.proofs.lemmas.Grind.{common_steps}
use Rattle.jsp_types.specs.declared.class.Class.{Class}
use Rattle.jsp_model.specs.declared.state.Row.{Row}
use Rattle.jsp_model.specs.declared.state.Blocked.{Blocked}
use Rattle.jsp_model.specs.declared.state.MatchSet.{MatchSet}
use Rattle.jsp_model.specs.Sight.{is_take, is_free as is_free_of, readable}
use Rattle.jsp_model.specs.Lookup.{is_caller}
use Rattle.jsp_sight.specs.Rows.{wanted, offered, shows}
use Rattle.jsp_table.specs.Numbers.{contains}
use Rattle.jsp_table.proofs.Finding.{each, everywhere}
use Rattle.jsp_index.specs.Finding.{is_asked}
use Rattle.jsp_index.specs.declared.holding.Holding.{Holding}
use Rattle.jsp_index.specs.Holding.{listed, lists, is_in, IsHeld, AreHeld}
use Rattle.jsp_index.specs.declared.starts.Unseen.{Unseen}
use Rattle.jsp_index.specs.declared.starts.Unseen.TheVariants.{Nothing, Taken, Hidden, Held}
use Rattle.jsp_index.specs.Passed.{is_untaken, is_public, is_free, is_open, may_have, is_had, AreOpen, AreOpenOr}
use Rattle.jsp_index.proofs.Covering.{and_both, eqb_eq}
use Rattle.jsp_index.proofs.Narrowing.{and_true}

readable_parts : (x : Option ℕ) (r : Row) → readable x r ≡ true → (is_none r.taker ≡ true) × (is_free_of x r.writer ≡ true)
readable_parts x r h = and_both (is_none r.taker) (is_free_of x r.writer) h

readable_of : (takes : Bool) (x : Option ℕ) (r : Row) → may_have takes x r ≡ true → readable x r ≡ true
readable_of true x r h = (and_both (readable x r) (list_all (is_caller x) r.readers) h).0
readable_of false x r h = h

nobody : (w : Option ℕ) → is_free_of None w ≡ true → is_none w ≡ true
nobody None h = refl
nobody (Some y) h = absurd (cc)

none_reads : (readers : List ℕ) → list_all (is_caller None) readers ≡ true → eqb (length readers) 0 ≡ true
none_reads [] h = refl
none_reads (y ∷ readers) h = absurd (cc)

-- what may be had isn't taken
pub had_untaken : (takes : Bool) (x : Option ℕ) (rows : List Row) → AreOpen Taken (may_have takes x) rows
had_untaken takes x rows = everywhere (λ r. may_have takes x r ≡ true → is_untaken r ≡ true) rows (λ r h. (readable_parts x r (readable_of takes x r h)).0)

-- who is under no transaction has no part in what one holds
pub had_by_none : (takes : Bool) (rows : List Row) → AreOpen (cond takes Held Hidden) (may_have takes None) rows
had_by_none true rows = everywhere (λ r. may_have true None r ≡ true → is_free r ≡ true) rows (λ r h. let two = and_both (readable None r) (list_all (is_caller None) r.readers) h in
    let parts = readable_parts None r two.0 in
    and_true (eqb (length r.readers) 0) (is_public r) (none_reads r.readers two.1) (and_true (is_none r.writer) (is_untaken r) (nobody r.writer parts.1) parts.0))
had_by_none false rows = everywhere (λ r. may_have false None r ≡ true → is_public r ≡ true) rows (λ r h. let parts = readable_parts None r h in and_true (is_none r.writer) (is_untaken r) (nobody r.writer parts.1) parts.0)

or_left : (c d : Bool) → c ≡ true → (c || d) ≡ true
or_left true d h = refl
or_left false d h = absurd (cc)

or_right : (c d : Bool) → d ≡ true → (c || d) ≡ true
or_right true d h = refl
or_right false d h = h

of_parts : (a b d : Bool) → (a || d) ≡ true → (b || d) ≡ true → ((a && b) || d) ≡ true
of_parts true true d p q = refl
of_parts true false d p q = q
of_parts false b d p q = p

-- a row of this number, listed for some, of whom x has it among its own
module _ (lists : ℕ → Bool) (x n : ℕ) (own : List ℕ) (named : lists x ≡ true → contains own n ≡ true) where
  no_writer : (w : Option ℕ) → ((y : ℕ) → is_caller w y ≡ true → lists y ≡ true) → is_free_of (Some x) w ≡ true → (is_none w || contains own n) ≡ true
  no_writer None held h = refl
  no_writer (Some y) held h = named (held x (eq-eqb y x (sym (eqb_eq x y h))))

  no_reader : (readers : List ℕ) → AllByRecursion (λ y. lists y ≡ true) readers → list_all (is_caller (Some x)) readers ≡ true → (eqb (length readers) 0 || contains own n) ≡ true
  no_reader [] held h = refl
  no_reader (y ∷ readers) held h = or_right (eqb (length (y ∷ readers)) 0) (contains own n) (named (subst (λ z. lists z ≡ true) (sym (eqb_eq x y (and_both (eqb x y) (list_all (is_caller (Some x)) readers) h).0)) held.0))

module _ {S : Type 0} (holders : HashMap ℕ (List Holding) S) (x space : ℕ) (own : List ℕ) (named : (n : ℕ) → lists holders x space n ≡ true → contains own n ≡ true) where
  here : (r : Row) → eqb r.space space ≡ true → lists holders x r.space r.number ≡ true → contains own r.number ≡ true
  here r is h = named r.number (subst (λ s. lists holders x s r.number ≡ true) (eqb_eq r.space space is) h)

  public_or_own : (r : Row) → eqb r.space space ≡ true → IsHeld holders r → readable (Some x) r ≡ true → (is_public r || contains own r.number) ≡ true
  public_or_own r is i h =
      let parts = readable_parts (Some x) r h in
      of_parts (is_none r.writer) (is_untaken r) (contains own r.number) (no_writer (λ y. lists holders y r.space r.number) x r.number own (here r is) r.writer i.by_writer parts.1) (or_left (is_untaken r) (contains own r.number) parts.0)

  -- what a transaction may have of a space that isn't its own is what nobody holds
  pub had_or_own : (takes : Bool) (rows : List Row) → AreHeld holders rows → AreOpenOr (cond takes Held Hidden) own (is_had space takes (Some x)) rows
  had_or_own true rows held = each (IsHeld holders) (λ r. is_had space true (Some x) r ≡ true → (is_free r || contains own r.number) ≡ true) rows held (λ r i h.
      let inside = and_both (eqb r.space space) (may_have true (Some x) r) h in
      let two = and_both (readable (Some x) r) (list_all (is_caller (Some x)) r.readers) inside.1 in
      of_parts (eqb (length r.readers) 0) (is_public r) (contains own r.number) (no_reader (λ y. lists holders y r.space r.number) x r.number own (here r inside.0) r.readers i.by_reader two.1) (public_or_own r inside.0 i two.0))
  had_or_own false rows held = each (IsHeld holders) (λ r. is_had space false (Some x) r ≡ true → (is_public r || contains own r.number) ≡ true) rows held (λ r i h. let inside = and_both (eqb r.space space) (may_have false (Some x) r) h in public_or_own r inside.0 i inside.1)

or_nothing : (b : Bool) → (b || false) ≡ true → b ≡ true
or_nothing true h = refl
or_nothing false h = absurd (cc)

nothing_or : (b : Bool) → b ≡ true → (b || false) ≡ true
nothing_or true h = refl
nothing_or false h = absurd (cc)

-- a transaction that holds nothing there has no part in what others hold
had_by_stranger : {S : Type 0} (holders : HashMap ℕ (List Holding) S) (x space : ℕ) → listed holders x space ≡ None → (takes : Bool) (rows : List Row) → AreHeld holders rows → AreOpen (cond takes Held Hidden) (is_had space takes (Some x)) rows
had_by_stranger holders x space none takes rows held =
    each (λ r. is_had space takes (Some x) r ≡ true → (is_open (cond takes Held Hidden) r || false) ≡ true) (λ r. is_had space takes (Some x) r ≡ true → is_open (cond takes Held Hidden) r ≡ true) rows
    (had_or_own holders x space [] (λ n h. absurd (cc (h, ap (λ o. is_in o n) none))) takes rows held) (λ r g h. or_nothing (is_open (cond takes Held Hidden) r) (g h))

-- what may be had at all may be had in a space
pub had_in : (u : Unseen) (space : ℕ) (takes : Bool) (x : Option ℕ) (rows : List Row) → AreOpen u (may_have takes x) rows → AreOpen u (is_had space takes x) rows
had_in u space takes x rows h = each (λ r. may_have takes x r ≡ true → is_open u r ≡ true) (λ r. is_had space takes x r ≡ true → is_open u r ≡ true) rows h (λ r g p. g (and_both (eqb r.space space) (may_have takes x r) p).1)

-- what passes may be had, in a list
pub all_had : (u : Unseen) (takes : Bool) (x : Option ℕ) (passed : Row → Bool) (rows : List Row) → ((r : Row) → passed r ≡ true → may_have takes x r ≡ true) → AreOpen u (may_have takes x) rows → AreOpen u passed rows
all_had u takes x passed rows had h = each (λ r. may_have takes x r ≡ true → is_open u r ≡ true) (λ r. passed r ≡ true → is_open u r ≡ true) rows h (λ r g p. g (had r p))

-- the same, where what passes is of the space
pub all_had_or : (u : Unseen) (own : List ℕ) (space : ℕ) (takes : Bool) (x : Option ℕ) (passed : Row → Bool) (rows : List Row) → ((r : Row) → passed r ≡ true → eqb r.space space ≡ true) → ((r : Row) → passed r ≡ true → may_have takes x r ≡ true)
    → AreOpenOr u own (is_had space takes x) rows → AreOpenOr u own passed rows
all_had_or u own space takes x passed rows inside had h = each (λ r. is_had space takes x r ≡ true → (is_open u r || contains own r.number) ≡ true) (λ r. passed r ≡ true → (is_open u r || contains own r.number) ≡ true) rows h (λ r g p. g (and_true (eqb r.space space) (may_have takes x r) (inside r p) (had r p)))

-- where none is its own, what passes is open
pub open_alone : (u : Unseen) (passed : Row → Bool) (rows : List Row) → AreOpenOr u [] passed rows → AreOpen u passed rows
open_alone u passed rows h = each (λ r. passed r ≡ true → (is_open u r || false) ≡ true) (λ r. passed r ≡ true → is_open u r ≡ true) rows h (λ r g p. or_nothing (is_open u r) (g p))

pub open_or_none : (u : Unseen) (passed : Row → Bool) (rows : List Row) → AreOpen u passed rows → AreOpenOr u [] passed rows
open_or_none u passed rows h = each (λ r. passed r ≡ true → is_open u r ≡ true) (λ r. passed r ≡ true → (is_open u r || false) ≡ true) rows h (λ r g p. nothing_or (is_open u r) (g p))

-- ---- what is offered or shown may be had

pub offered_had : (classes : List Class) (b : Blocked) (r : Row) → offered classes b r ≡ true → may_have (is_take b.form) b.transaction r ≡ true
offered_had classes b r h = (and_both (wanted classes b r) (may_have (is_take b.form) b.transaction r) h).1

pub offered_asked : (classes : List Class) (b : Blocked) (r : Row) → offered classes b r ≡ true → is_asked classes b.space b.templates r ≡ true
offered_asked classes b r h = (and_both (wanted classes b r) (may_have (is_take b.form) b.transaction r) h).0

pub shown_had : (classes : List Class) (m : MatchSet) (r : Row) → shows classes m r ≡ true → readable m.transaction r ≡ true
shown_had classes m r h = grind (arith, common_steps)

-- whatever passes is had where nothing is unseen
pub all_open : (passed : Row → Bool) (rows : List Row) → AreOpen Nothing passed rows
all_open passed rows = everywhere (λ r. passed r ≡ true → true ≡ true) rows (λ r h. refl)

-- ---- what a transaction holds, if it holds some

pub held_some : {S : Type 0} (holders : HashMap ℕ (List Holding) S) (x space : ℕ) (transaction : Option ℕ) (o : Option (List ℕ)) (rows : List Row) → transaction ≡ Some x → listed holders x space ≡ o → AreHeld holders rows
    → IfSome o (λ own. (takes : Bool) → AreOpenOr (cond takes Held Hidden) own (is_had space takes transaction) rows)
held_some holders x space transaction None rows is got held = tt
held_some holders x space transaction (Some own) rows is got held = λ takes. subst (λ (y : Option ℕ). AreOpenOr (cond takes Held Hidden) own (is_had space takes y) rows) (sym is)
    (had_or_own holders x space own (λ n h. sym (ap (λ o. is_in o n) got) ∙ h) takes rows held)

pub held_none : {S : Type 0} (holders : HashMap ℕ (List Holding) S) (x space : ℕ) (transaction : Option ℕ) (o : Option (Bor (List ℕ))) (rows : List Row) → transaction ≡ Some x → listed holders x space ≡ option_copied o → AreHeld holders rows
    → IfNone o ((takes : Bool) → AreOpen (cond takes Held Hidden) (is_had space takes transaction) rows)
held_none holders x space transaction None rows is got held = λ takes. subst (λ (y : Option ℕ). AreOpen (cond takes Held Hidden) (is_had space takes y) rows) (sym is) (had_by_stranger holders x space got takes rows held)
held_none holders x space transaction (Some own) rows is got held = tt
