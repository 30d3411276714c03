-- The end that comes first, of rows some of which go.
use Rattle.std.proofs.Common.{◌≡◌, ℕ, ◌<◌, Bool, true, false, cond, ◌&&◌, ◌||◌, eqb, nat_le, List, [], ◌∷◌, map, Option, Some, None, refl, ap, sym, ◌∙◌, subst, arith}
use Rattle.std.specs.Prelude.{filter, ◌==◌}
use Rattle.std.specs.List.{AllByRecursion, list_any}
use Rattle.std.specs.Option.{option_map_or}
use Rattle.jsp_lease.specs.declared.item.Item.{Item}
use Rattle.jsp_lease.specs.Due.{first_item, over_by, is_before}
use Rattle.jsp_lease.proofs.Order.{asym, same, below}
use Rattle.jsp_table.specs.Finding.{AreNumbered as AreRising}
use Rattle.jsp_table.proofs.Finding.{each, both}
use Rattle.jsp_index.proofs.Covering.{eqb_eq}
use Rattle.jsp_model.specs.declared.state.Row.{Row}
use Rattle.jsp_sight.specs.Rows.{row_end}
use Rattle.jsp_decided.specs.declared.recorded.Recorded.{Recorded}
use Rattle.jsp_decided.specs.Recording.{becomes, rows_after}
use Rattle.jsp_decided.specs.Decided.{row_after}
use Rattle.jsp_decided.proofs.RowsAfter.{fate_keys, all_after}
use Rattle.jsp_decided.proofs.Marks.{keys_after}
use Rattle.jsp_decided.proofs.Flat.{passes_later, passing_later}

-- ---- the first of some items

abbrev first_or : Item → Option Item → Item
first_or a o = option_map_or (λ b. cond (is_before b a) b a) o a

some_item : {a b : Item} → Some a ≡ Some b → a ≡ b
some_item e = cc

-- what all are, the first is
pub first_is : (Q : Item → Type 0) (items : List Item) (a : Item) → AllByRecursion Q items → first_item items ≡ Some a → Q a
first_is Q [] a h is = absurd (cc)
first_is Q (b ∷ items) a h is = at (first_item items) refl is (first_is Q items) where
  at : (o : Option Item) → first_item items ≡ o → Some (first_or b o) ≡ Some a → ((a : Item) → AllByRecursion Q items → first_item items ≡ Some a → Q a) → Q a
  at None e g rest = subst Q (some_item g) h.0
  at (Some c) e g rest = subst Q (some_item g) (either (is_before c b)) where
    either : (k : Bool) → Q (cond k c b)
    either true = rest c h.1 e
    either false = h.0

-- none comes before the first
pub none_before : (items : List Item) (a : Item) → first_item items ≡ Some a → AllByRecursion (λ b. is_before b a ≡ false) items
none_before [] a is = tt
none_before (b ∷ items) a is = at (first_item items) refl is (none_before items) (none_there items) where
  irreflexive : (c : Item) → is_before c c ≡ false
  irreflexive c = here (is_before c c) refl where
    here : (k : Bool) → is_before c c ≡ k → is_before c c ≡ false
    here true e = asym c c e
    here false e = e

  none_there : (items : List Item) → first_item items ≡ None → (P : Item → Type 0) → AllByRecursion P items
  none_there [] e P = tt
  none_there (c ∷ items) e P = absurd (cc)

  weaker : (c d : Item) (items : List Item) → is_before c d ≡ false → AllByRecursion (λ b. is_before b c ≡ false) items → AllByRecursion (λ b. is_before b d ≡ false) items
  weaker c d [] le h = tt
  weaker c d (b ∷ items) le h = (below b c d h.0 le, weaker c d items le h.1)

  at : (o : Option Item) → first_item items ≡ o → Some (first_or b o) ≡ Some a → ((a : Item) → first_item items ≡ Some a → AllByRecursion (λ b. is_before b a ≡ false) items) → (first_item items ≡ None → (P : Item → Type 0) → AllByRecursion P items)
      → (is_before b a ≡ false) × AllByRecursion (λ b. is_before b a ≡ false) items
  at None e g rest nowhere = (subst (λ a. is_before b a ≡ false) (some_item g) (irreflexive b), nowhere e (λ b. is_before b a ≡ false))
  at (Some c) e g rest nowhere = either (is_before c b) refl (some_item g) where
    either : (k : Bool) → is_before c b ≡ k → cond k c b ≡ a → (is_before b a ≡ false) × AllByRecursion (λ b. is_before b a ≡ false) items
    either true k f = (subst (λ a. is_before b a ≡ false) f (asym c b k), subst (λ a. AllByRecursion (λ b. is_before b a ≡ false) items) f (rest c e))
    either false k f = (subst (λ a. is_before b a ≡ false) f (irreflexive b), subst (λ a. AllByRecursion (λ b. is_before b a ≡ false) items) f (weaker c b items k (rest c e)))

-- ---- rows

module _ (time : ℕ) where
  abbrev pub ends_by : List Row → List Item
  ends_by rows = over_by time (map row_end rows)

  pub all_ends : (Q : Item → Type 0) (rows : List Row) → AllByRecursion (λ r. Q (row_end r)) rows → AllByRecursion Q (ends_by rows)
  all_ends Q [] h = tt
  all_ends Q (r ∷ rows) h = at (nat_le r.end time) (all_ends Q rows h.1) where
    at : (b : Bool) → AllByRecursion Q (ends_by rows) → AllByRecursion Q (cond b (row_end r ∷ ends_by rows) (ends_by rows))
    at true rest = (h.0, rest)
    at false rest = rest

  all_over : (rows : List Row) → AllByRecursion (λ (i : Item). nat_le i.end time ≡ true) (ends_by rows)
  all_over [] = tt
  all_over (r ∷ rows) = at (nat_le r.end time) refl (all_over rows) where
    at : (b : Bool) → nat_le r.end time ≡ b → AllByRecursion (λ (i : Item). nat_le i.end time ≡ true) (ends_by rows) → AllByRecursion (λ (i : Item). nat_le i.end time ≡ true) (cond b (row_end r ∷ ends_by rows) (ends_by rows))
    at true e rest = (e, rest)
    at false e rest = rest

  of_ends : (Q : Item → Type 0) (rows : List Row) → AllByRecursion Q (ends_by rows) → AllByRecursion (λ r. nat_le r.end time ≡ true → Q (row_end r)) rows
  of_ends Q [] h = tt
  of_ends Q (r ∷ rows) h = at (nat_le r.end time) refl h (of_ends Q rows) where
    at : (b : Bool) → nat_le r.end time ≡ b → AllByRecursion Q (cond b (row_end r ∷ ends_by rows) (ends_by rows)) → (AllByRecursion Q (ends_by rows) → AllByRecursion (λ r. nat_le r.end time ≡ true → Q (row_end r)) rows)
        → (nat_le r.end time ≡ true → Q (row_end r)) × AllByRecursion (λ r. nat_le r.end time ≡ true → Q (row_end r)) rows
    at true e k rest = ((λ _. k.0), rest k.1)
    at false e k rest = ((λ f. absurd (cc (e, f))), rest k)

  none_over : (rows : List Row) → first_item (ends_by rows) ≡ None → AllByRecursion (λ (r : Row). nat_le r.end time ≡ false) rows
  none_over [] h = tt
  none_over (r ∷ rows) h = at (nat_le r.end time) refl h (none_over rows) where
    at : (b : Bool) → nat_le r.end time ≡ b → first_item (cond b (row_end r ∷ ends_by rows) (ends_by rows)) ≡ None → (first_item (ends_by rows) ≡ None → AllByRecursion (λ (r : Row). nat_le r.end time ≡ false) rows)
        → (nat_le r.end time ≡ false) × AllByRecursion (λ (r : Row). nat_le r.end time ≡ false) rows
    at true e k rest = absurd (cc)
    at false e k rest = (e, rest k)

  over_none : (rows : List Row) → AllByRecursion (λ (r : Row). nat_le r.end time ≡ false) rows → None ≡ first_item (ends_by rows)
  over_none [] h = refl
  over_none (r ∷ rows) h = rw h.0 (over_none rows h.1)

  -- nothing is over then either
  pub none_later : (ds : List Recorded) (rows : List Row) → first_item (ends_by rows) ≡ None → None ≡ first_item (ends_by (rows_after ds rows))
  none_later ds rows none = over_none (rows_after ds rows) (all_after (λ (r : Row). nat_le r.end time ≡ false) (λ d r s is h. ap (λ e. nat_le e time) (fate_keys d r s is).end ∙ h) ds rows (none_over rows none))

  module _ (a : Item) (over : nat_le a.end time ≡ true) where
    first_there : (rows : List Row) → AllByRecursion (λ r. nat_le r.end time ≡ true → is_before (row_end r) a ≡ false) rows → AllByRecursion (λ (r : Row). r.number ≡ a.number → row_end r ≡ a) rows
        → list_any (λ (r : Row). r.number == a.number) rows ≡ true → Some a ≡ first_item (ends_by rows)
    first_there [] none one has = absurd (cc)
    first_there (r ∷ rows) none one has = at (eqb r.number a.number) refl has (first_there rows none.1 one.1) where
      here : row_end r ≡ a → Some a ≡ first_item (row_end r ∷ ends_by rows)
      here same = ap Some (sym (ap (λ b. first_or b (first_item (ends_by rows))) same ∙ least (first_item (ends_by rows)) refl)) where
        least : (o : Option Item) → first_item (ends_by rows) ≡ o → first_or a o ≡ a
        least None e = refl
        least (Some b) e = rw (first_is (λ b. is_before b a ≡ false) (ends_by rows) b (before rows none.1) e) refl where
          before : (rows : List Row) → AllByRecursion (λ r. nat_le r.end time ≡ true → is_before (row_end r) a ≡ false) rows → AllByRecursion (λ b. is_before b a ≡ false) (ends_by rows)
          before [] h = tt
          before (r ∷ rows) h = each_one (nat_le r.end time) refl (before rows h.1) where
            each_one : (b : Bool) → nat_le r.end time ≡ b → AllByRecursion (λ b. is_before b a ≡ false) (ends_by rows) → AllByRecursion (λ b. is_before b a ≡ false) (cond b (row_end r ∷ ends_by rows) (ends_by rows))
            each_one true e rest = (h.0 e, rest)
            each_one false e rest = rest

      behind : (k : Bool) → nat_le r.end time ≡ k → Some a ≡ first_item (ends_by rows) → Some a ≡ first_item (cond k (row_end r ∷ ends_by rows) (ends_by rows))
      behind false e rest = rest
      behind true e rest = ap Some (sym (ap (λ o. first_or (row_end r) o) (sym rest) ∙ choice (is_before a (row_end r)) refl)) where
        choice : (b : Bool) → is_before a (row_end r) ≡ b → cond b a (row_end r) ≡ a
        choice true f = refl
        choice false f = same (row_end r) a (none.0 e) f

      at : (b : Bool) → eqb r.number a.number ≡ b → (b || list_any (λ (r : Row). r.number == a.number) rows) ≡ true → (list_any (λ (r : Row). r.number == a.number) rows ≡ true → Some a ≡ first_item (ends_by rows))
          → Some a ≡ first_item (cond (nat_le r.end time) (row_end r ∷ ends_by rows) (ends_by rows))
      at true e k rest =
          let is = one.0 (eqb_eq r.number a.number e) in
          rw (ap (λ (i : Item). nat_le i.end time) is ∙ over) (here is)
      at false e k rest = behind (nat_le r.end time) refl (rest k)

    pub first_later : (ds : List Recorded) (rows : List Row) → first_item (ends_by rows) ≡ Some a → AreRising (λ (r : Row). r.number) rows → list_any (λ (r : Row). r.number == a.number) (rows_after ds rows) ≡ true → Some a ≡ first_item (ends_by (rows_after ds rows))
    first_later ds rows is up has =
        first_there (rows_after ds rows)
        (all_after (λ r. nat_le r.end time ≡ true → is_before (row_end r) a ≡ false) (λ d r s e h f. ap (λ i. is_before i a) (same_end d r s e) ∙ h (sym (ap (λ (i : Item). nat_le i.end time) (same_end d r s e)) ∙ f)) ds rows (of_ends (λ b. is_before b a ≡ false) rows (none_before (ends_by rows) a is)))
        (all_after (λ (r : Row). r.number ≡ a.number → row_end r ≡ a) (λ d r s e h f. same_end d r s e ∙ h (sym (fate_keys d r s e).number ∙ f)) ds rows
        (first_is (λ (i : Item). AllByRecursion (λ (r : Row). r.number ≡ i.number → row_end r ≡ i) rows) (ends_by rows) a (all_ends (λ (i : Item). AllByRecursion (λ (r : Row). r.number ≡ i.number → row_end r ≡ i) rows) rows (only_ones rows up)) is))
        has
      where
        same_end : (d : Recorded) (r s : Row) → becomes d r ≡ Some s → row_end s ≡ row_end r
        same_end d r s e = let keys = fate_keys d r s e in (λ i. record { end = keys.end i; rank = (row_end r).rank; number = keys.number i })

        apart : {a b : ℕ} → a < b → a ≡ b → ⊥
        apart lt e = omega arith

        only_ones : (rows : List Row) → AreRising (λ (r : Row). r.number) rows → AllByRecursion (λ (q : Row). AllByRecursion (λ (r : Row). r.number ≡ q.number → row_end r ≡ row_end q) rows) rows
        only_ones [] up = tt
        only_ones (x ∷ rows) up = (
          ((λ e. refl), each (λ (y : Row). x.number < y.number) (λ (y : Row). y.number ≡ x.number → row_end y ≡ row_end x) rows up.0 (λ y lt e. absurd (apart lt (sym e)))),
          both (λ (q : Row). x.number < q.number) (λ (q : Row). AllByRecursion (λ (r : Row). r.number ≡ q.number → row_end r ≡ row_end q) rows)
              (λ (q : Row). (x.number ≡ q.number → row_end x ≡ row_end q) × AllByRecursion (λ (r : Row). r.number ≡ q.number → row_end r ≡ row_end q) rows) rows up.0 (only_ones rows up.1) (λ q lt h. ((λ e. absurd (apart lt e)), h)),
        )

  pub is_over : (rows : List Row) (a : Item) → first_item (ends_by rows) ≡ Some a → nat_le a.end time ≡ true
  is_over rows a is = first_is (λ (i : Item). nat_le i.end time ≡ true) (ends_by rows) a (all_over rows) is

-- those that are left
pub left_ends : (ds : List Recorded) (rows : List Row) → map row_end (filter (passes_later (λ _. true) ds) rows) ≡ map row_end (rows_after ds rows)
left_ends ds rows = sym (passing_later row_end same_end (λ _. true) ds rows) ∙ ap (map row_end) (every_one (rows_after ds rows)) where
  same_end : (ds : List Recorded) (r s : Row) → row_after ds r ≡ Some s → row_end s ≡ row_end r
  same_end ds r s e = let keys = keys_after ds r s e in (λ i. record { end = keys.end i; rank = (row_end r).rank; number = keys.number i })

  every_one : (rows : List Row) → filter (λ _. true) rows ≡ rows
  every_one [] = refl
  every_one (r ∷ rows) = ap (λ w. r ∷ w) (every_one rows)
