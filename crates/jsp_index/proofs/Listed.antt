-- What is listed for a space, and rows that are revised space by space.
use Rattle.std.proofs.Common.{◌≡◌, ◌≢◌, ℕ, zero, suc, ◌+◌, ◌<◌, ◌≤◌, Bool, true, false, cond, ◌&&◌, ◌||◌, eqb, List, [], ◌∷◌, ◌++◌, length, take, drop, get_or, set, Option, Some, None, option_and_then, refl, ap, sym, ◌∙◌, subst, arith}
use Rattle.std.specs.Prelude.{find, is_some, position, option_map, ◌==◌}
use Rattle.std.specs.List.{AllByRecursion, list_any, filter_map, cons_option}
use Rattle.std.proofs.lemmas.Bool.{eq-eqb}
use Rattle.std.proofs.lemmas.List.{take_more}
use Rattle.std.proofs.lemmas.List.Quantifiers.{position-Some}
use Rattle.jsp_model.specs.declared.state.Row.{Row}
use Rattle.jsp_model.specs.Lookup.{contains as has}
use Rattle.jsp_table.specs.Numbers.{contains}
use Rattle.jsp_index.specs.declared.holding.Holding.{Holding}
use Rattle.jsp_index.specs.Changing.{revised_by, HasSameKeys, IsOnce}
use Rattle.jsp_index.specs.Holding.{listed_in, is_in}
use Rattle.jsp_sight.proofs.Unique.{none_fits, or_parts}
use Rattle.jsp_table.proofs.Finding.{each}
use Rattle.jsp_index.proofs.Covering.{eqb_eq}
use Rattle.jsp_index.proofs.Revisions.{compose, eqb_same}

-- ---- a list that is begun or added to

abbrev pub is_of : ℕ → Holding → Bool
is_of space h = h.space == space

listed_end : (hs : List Holding) (h : Holding) (s : ℕ) → listed_in (hs ++ h ∷ []) s ≡ cond (is_some (listed_in hs s)) (listed_in hs s) (listed_in (h ∷ []) s)
listed_end [] h s = refl
listed_end (x ∷ hs) h s = at (eqb x.space s) refl (listed_end hs h s) where
  at : (b : Bool) → eqb x.space s ≡ b → listed_in (hs ++ h ∷ []) s ≡ cond (is_some (listed_in hs s)) (listed_in hs s) (listed_in (h ∷ []) s) → listed_in ((x ∷ hs) ++ h ∷ []) s ≡ cond (is_some (listed_in (x ∷ hs) s)) (listed_in (x ∷ hs) s) (listed_in (h ∷ []) s)
  at true e rest = rw e refl
  at false e rest = rw e rest

none_some : {X : Type 0} (o : Option X) → is_some o ≡ false → o ≡ None
none_some None h = refl
none_some (Some x) h = absurd (cc)

in_some : (o : Option (List ℕ)) (n : ℕ) → is_in o n ≡ true → is_some o ≡ true
in_some None n h = absurd (cc)
in_some (Some ns) n h = refl

pub begun_list : (hs : List Holding) (h : Holding) (n : ℕ) → listed_in hs h.space ≡ None → contains h.numbers n ≡ true → is_in (listed_in (hs ++ h ∷ []) h.space) n ≡ true
begun_list hs h n none there = rw (listed_end hs h h.space, none, eq_self h.space) there where
  eq_self : (k : ℕ) → eqb k k ≡ true
  eq_self k = eq-eqb k k refl

pub begun_keeps : (hs : List Holding) (h : Holding) (s n : ℕ) → is_in (listed_in hs s) n ≡ true → is_in (listed_in (hs ++ h ∷ []) s) n ≡ true
begun_keeps hs h s n there = rw (listed_end hs h s, in_some (listed_in hs s) n there) there

-- the list at a place is the space's, and others stay
record IsAt (space : ℕ) (hs : List Holding) (i : ℕ) (d h : Holding) : Type 0 where
  new : listed_in (set hs i h) space ≡ Some h.numbers
  old : listed_in hs space ≡ Some (get_or hs i d).numbers
  others : (s : ℕ) → eqb space s ≡ false → listed_in (set hs i h) s ≡ listed_in hs s

at_place : (space : ℕ) (hs : List Holding) (i : ℕ) (d h : Holding) → i < length hs → eqb (get_or hs i d).space space ≡ true → ((k : ℕ) → k < i → eqb (get_or hs k d).space space ≡ false) → h.space ≡ space → IsAt space hs i d h
at_place space [] i d h lt is before same = absurd (omega arith)
at_place space (x ∷ hs) zero d h lt is before same = record {
  new = rw (same, eq-eqb space space refl) refl;
  old = rw is refl;
  others = λ s ne. rw (same, eqb_eq x.space space is, ne) refl;
}
at_place space (x ∷ hs) (suc i) d h lt is before same =
    let rest = at_place space hs i d h (omega arith) is (λ k less. before (suc k) (omega arith)) same in
    let here : eqb x.space space ≡ false = before 0 (omega arith) in
    record {
      new = rw here rest.new;
      old = rw here rest.old;
      others = λ s ne. at s (eqb x.space s) refl (rest.others s ne);
    } where
      at : (s : ℕ) (b : Bool) → eqb x.space s ≡ b → listed_in (set hs i h) s ≡ listed_in hs s → listed_in (x ∷ set hs i h) s ≡ listed_in (x ∷ hs) s
      at s true e rest = rw e refl
      at s false e rest = rw e rest

module _ (space : ℕ) (hs : List Holding) (i : ℕ) (d h : Holding) (found : position (is_of space) hs ≡ Some i) (same : h.space ≡ (get_or hs i d).space) where
  there : IsAt space hs i d h
  there = let p = position-Some (is_of space) hs i d found in at_place space hs i d h p.0 p.1 p.2 (same ∙ eqb_eq (get_or hs i d).space space p.1)

  pub added_list : (n : ℕ) → contains h.numbers n ≡ true → is_in (listed_in (set hs i h) space) n ≡ true
  added_list n is = rw there.new is

  -- of each list there is still what the changed one keeps
  pub kept_in : (s n : ℕ) → (s ≡ space → contains (get_or hs i d).numbers n ≡ true → contains h.numbers n ≡ true) → is_in (listed_in hs s) n ≡ true → is_in (listed_in (set hs i h) s) n ≡ true
  kept_in s n keeps is = at (eqb space s) refl where
    at : (b : Bool) → eqb space s ≡ b → is_in (listed_in (set hs i h) s) n ≡ true
    at false e = rw (there.others s e) is
    at true e =
        let here : space ≡ s = eqb_eq space s e in
        subst (λ t. is_in (listed_in (set hs i h) t) n ≡ true) here (added_list n (keeps (sym here) (ap (λ o. is_in o n) (sym there.old) ∙ (ap (λ t. is_in (listed_in hs t) n) here ∙ is))))

  pub added_keeps : ((n : ℕ) → contains (get_or hs i d).numbers n ≡ true → contains h.numbers n ≡ true) → (s n : ℕ) → is_in (listed_in hs s) n ≡ true → is_in (listed_in (set hs i h) s) n ≡ true
  added_keeps keeps s n = kept_in s n (λ here. keeps n)

  pub removed_keeps : (m : ℕ) → ((n : ℕ) → n ≢ m → contains (get_or hs i d).numbers n ≡ true → contains h.numbers n ≡ true) → (s n : ℕ) → (eqb s space && eqb n m) ≡ false → is_in (listed_in hs s) n ≡ true → is_in (listed_in (set hs i h) s) n ≡ true
  removed_keeps m keeps s n apart = kept_in s n (λ here. keeps n (λ e. absurd (cc (apart, eq-eqb s space here, eq-eqb n m e))))

-- the list at the place of a space is the space's
pub listed_there : (space : ℕ) (hs : List Holding) (i : ℕ) (d : Holding) → position (is_of space) hs ≡ Some i → listed_in hs space ≡ Some (get_or hs i d).numbers
listed_there space hs i d found = (there space hs i d (get_or hs i d) found refl).old

pub is_there : (space : ℕ) (hs : List Holding) (i : ℕ) (d : Holding) → position (is_of space) hs ≡ Some i → (i < length hs) × ((get_or hs i d).space ≡ space)
is_there space hs i d found = let p = position-Some (is_of space) hs i d found in (p.0, eqb_eq (get_or hs i d).space space p.1)

-- without the list at a place those of other spaces are there still
pub without_place : (hs : List Holding) (i : ℕ) (d : Holding) (s : ℕ) → i < length hs → eqb (get_or hs i d).space s ≡ false → listed_in (take i hs ++ drop (suc i) hs) s ≡ listed_in hs s
without_place [] i d s lt ne = absurd (omega arith)
without_place (x ∷ hs) zero d s lt ne = rw ne refl
without_place (x ∷ hs) (suc i) d s lt ne = at (eqb x.space s) refl (without_place hs i d s (omega arith) ne) where
  at : (b : Bool) → eqb x.space s ≡ b → listed_in (take i hs ++ drop (suc i) hs) s ≡ listed_in hs s → listed_in (x ∷ (take i hs ++ drop (suc i) hs)) s ≡ listed_in (x ∷ hs) s
  at true e rest = rw e refl
  at false e rest = rw e rest

-- no place, no list
pub none_listed : (space : ℕ) (hs : List Holding) → position (is_of space) hs ≡ None → listed_in hs space ≡ None
none_listed space hs none = absent hs (none_fits (is_of space) hs none) where
  absent : (hs : List Holding) → list_any (is_of space) hs ≡ false → listed_in hs space ≡ None
  absent [] h = refl
  absent (x ∷ hs) h = let parts = or_parts (eqb x.space space) (list_any (is_of space) hs) h in rw parts.0 (absent hs parts.1)

-- ---- all numbers

in_first : (ns ms : List ℕ) (n : ℕ) → has ns n ≡ true → has (ns ++ ms) n ≡ true
in_first [] ms n h = absurd (cc)
in_first (m ∷ ns) ms n h = at (eqb m n) h (in_first ns ms n) where
  at : (b : Bool) → (b || has ns n) ≡ true → (has ns n ≡ true → has (ns ++ ms) n ≡ true) → (b || has (ns ++ ms) n) ≡ true
  at true g rest = refl
  at false g rest = rest g

in_second : (ns ms : List ℕ) (n : ℕ) → has ms n ≡ true → has (ns ++ ms) n ≡ true
in_second [] ms n h = h
in_second (m ∷ ns) ms n h = at (eqb m n) (in_second ns ms n h) where
  at : (b : Bool) → has (ns ++ ms) n ≡ true → (b || has (ns ++ ms) n) ≡ true
  at true rest = refl
  at false rest = rest

pub numbers_more : (hs : List Holding) (i : ℕ) (d : Holding) (numbers : List ℕ) → i < length hs → ((s n : ℕ) → is_in (listed_in (take i hs) s) n ≡ true → has numbers n ≡ true)
    → (s n : ℕ) → is_in (listed_in (take (i + 1) hs) s) n ≡ true → has (numbers ++ (get_or hs i d).numbers) n ≡ true
numbers_more hs i d numbers lt before s n is =
    at (is_some (listed_in (take i hs) s)) refl (ap (λ o. is_in o n) (sym (ap (λ w. listed_in w s) (take_more hs i d lt) ∙ listed_end (take i hs) (get_or hs i d) s)) ∙ is) where
      at : (b : Bool) → is_some (listed_in (take i hs) s) ≡ b → is_in (cond b (listed_in (take i hs) s) (listed_in (get_or hs i d ∷ []) s)) n ≡ true → has (numbers ++ (get_or hs i d).numbers) n ≡ true
      at true e h = in_first numbers (get_or hs i d).numbers n (before s n h)
      at false e h = in_second numbers (get_or hs i d).numbers n (own (eqb (get_or hs i d).space s) refl h) where
        own : (b : Bool) → eqb (get_or hs i d).space s ≡ b → is_in (listed_in (get_or hs i d ∷ []) s) n ≡ true → contains (get_or hs i d).numbers n ≡ true
        own true f g = ap (λ b. is_in (option_map (λ (h : Holding). h.numbers) (cond b (Some (get_or hs i d)) None)) n) (sym f) ∙ g
        own false f g = absurd (cc (g, ap (λ b. is_in (option_map (λ (h : Holding). h.numbers) (cond b (Some (get_or hs i d)) None)) n) f))

-- one list alone
pub one_item : (hs : List Holding) (d : Holding) → 1 ≤ length hs → length hs < 2 → hs ≡ get_or hs 0 d ∷ []
one_item [] d low high = absurd (omega arith)
one_item (h ∷ []) d low high = refl
one_item (h ∷ g ∷ hs) d low high = absurd (omega arith)

pub only_listed : (h : Holding) (s n : ℕ) → is_in (listed_in (h ∷ []) s) n ≡ true → contains h.numbers n ≡ true
only_listed h s n is = at (eqb h.space s) refl where
  at : (b : Bool) → eqb h.space s ≡ b → contains h.numbers n ≡ true
  at true e = ap (λ b. is_in (option_map (λ (h : Holding). h.numbers) (cond b (Some h) None)) n) (sym e) ∙ is
  at false e = absurd (cc (is, ap (λ b. is_in (option_map (λ (h : Holding). h.numbers) (cond b (Some h) None)) n) e))

-- ---- space by space

pub alike : (f g : Row → Option Row) (rows : List Row) → ((r : Row) → f r ≡ g r) → filter_map f rows ≡ filter_map g rows
alike f g [] same = refl
alike f g (r ∷ rows) same = rw (same r) (ap (cons_option (g r)) (alike f g rows same))

module _ (gone : Row → Bool) (changed : Row → Row) where
  -- the rows of one space are revised
  abbrev pub revised_in : ℕ → Row → Option Row
  revised_in space r = cond (eqb r.space space) (revised_by gone changed r) (Some r)

  -- those of the spaces that have a list are
  abbrev pub revised_of : List Holding → Row → Option Row
  revised_of hs r = cond (is_some (listed_in hs r.space)) (revised_by gone changed r) (Some r)

  pub local_keys : (space : ℕ) → ((r : Row) → HasSameKeys r (changed r)) → (r : Row) → HasSameKeys r (cond (eqb r.space space) (changed r) r)
  local_keys space keys r = at (eqb r.space space) where
    at : (b : Bool) → HasSameKeys r (cond b (changed r) r)
    at true = keys r
    at false = record { number = refl; space = refl; entry = refl; end = refl }

  pub local_is : (space : ℕ) (r : Row) → revised_by (λ (r : Row). eqb r.space space && gone r) (λ (r : Row). cond (eqb r.space space) (changed r) r) r ≡ revised_in space r
  local_is space r = at (eqb r.space space) where
    at : (b : Bool) → cond (b && gone r) None (Some (cond b (changed r) r)) ≡ cond b (revised_by gone changed r) (Some r)
    at true = refl
    at false = refl

  pub all_local : (space : ℕ) (rows : List Row) → filter_map (revised_by (λ (r : Row). eqb r.space space && gone r) (λ (r : Row). cond (eqb r.space space) (changed r) r)) rows ≡ filter_map (revised_in space) rows
  all_local space rows = alike (revised_by (λ (r : Row). eqb r.space space && gone r) (λ (r : Row). cond (eqb r.space space) (changed r) r)) (revised_in space) rows (local_is space)

  pub local_named : (space : ℕ) (ns : List ℕ) (rows : List Row) → AllByRecursion (λ (r : Row). eqb r.space space ≡ true → contains ns r.number ≡ false → revised_by gone changed r ≡ Some r) rows
      → AllByRecursion (λ (r : Row). contains ns r.number ≡ false → revised_by (λ (r : Row). eqb r.space space && gone r) (λ (r : Row). cond (eqb r.space space) (changed r) r) r ≡ Some r) rows
  local_named space ns rows h = each (λ (r : Row). eqb r.space space ≡ true → contains ns r.number ≡ false → revised_by gone changed r ≡ Some r) (λ (r : Row). contains ns r.number ≡ false → revised_by (λ (r : Row). eqb r.space space && gone r) (λ (r : Row). cond (eqb r.space space) (changed r) r) r ≡ Some r) rows h
      (λ r g none. local_is space r ∙ at r (eqb r.space space) refl g none) where
        at : (r : Row) (b : Bool) → eqb r.space space ≡ b → (eqb r.space space ≡ true → contains ns r.number ≡ false → revised_by gone changed r ≡ Some r) → contains ns r.number ≡ false → cond b (revised_by gone changed r) (Some r) ≡ Some r
        at r true e g none = g e none
        at r false e g none = refl

  pub none_yet : (hs : List Holding) (rows : List Row) → rows ≡ filter_map (revised_of (take 0 hs)) rows
  none_yet hs [] = refl
  none_yet hs (r ∷ rows) = ap (λ w. r ∷ w) (none_yet hs rows)

  -- where no list before has the space, this one is the space's
  first_listed : (hs : List Holding) (i : ℕ) (d : Holding) (s : ℕ) → i < length hs → is_some (listed_in (take i hs) s) ≡ false → eqb (get_or hs i d).space s ≡ true → listed_in hs s ≡ Some (get_or hs i d).numbers
  first_listed [] i d s lt none is = absurd (omega arith)
  first_listed (x ∷ hs) zero d s lt none is = rw is refl
  first_listed (x ∷ hs) (suc i) d s lt none is = at (eqb x.space s) refl (first_listed hs i d s) where
    at : (b : Bool) → eqb x.space s ≡ b → (i < length hs → is_some (listed_in (take i hs) s) ≡ false → eqb (get_or hs i d).space s ≡ true → listed_in hs s ≡ Some (get_or hs i d).numbers) → listed_in (x ∷ hs) s ≡ Some (get_or (x ∷ hs) (suc i) d).numbers
    at true e rest = absurd (cc (none, ap (λ b. is_some (option_map (λ (h : Holding). h.numbers) (cond b (Some x) (find (is_of s) (take i hs))))) e))
    at false e rest = rw e (rest (omega arith) (ap (λ b. is_some (option_map (λ (h : Holding). h.numbers) (cond b (Some x) (find (is_of s) (take i hs))))) (sym e) ∙ none) is)

  module _ (stays : IsOnce (revised_by gone changed)) where
    -- what the next list doesn't name stays as it is
    pub next_listed : (hs : List Holding) (i : ℕ) (d : Holding) (rows : List Row) → i < length hs → AllByRecursion (λ (r : Row). is_in (listed_in hs r.space) r.number ≡ false → revised_by gone changed r ≡ Some r) rows
        → AllByRecursion (λ (r : Row). eqb r.space (get_or hs i d).space ≡ true → contains (get_or hs i d).numbers r.number ≡ false → revised_by gone changed r ≡ Some r) (filter_map (revised_of (take i hs)) rows)
    next_listed hs i d [] lt h = tt
    next_listed hs i d (r ∷ rows) lt h = at (is_some (listed_in (take i hs) r.space)) refl (next_listed hs i d rows lt h.1) where
      left : List Row
      left = filter_map (revised_of (take i hs)) rows

      Rest : List Row → Type 0
      Rest w = AllByRecursion (λ (r : Row). eqb r.space (get_or hs i d).space ≡ true → contains (get_or hs i d).numbers r.number ≡ false → revised_by gone changed r ≡ Some r) w

      done : (o : Option Row) → revised_by gone changed r ≡ o → Rest left → Rest (cons_option o left)
      done None e rest = rest
      done (Some new) e rest = (λ same none. stays r new e, rest)

      at : (b : Bool) → is_some (listed_in (take i hs) r.space) ≡ b → Rest left → Rest (cons_option (cond b (revised_by gone changed r) (Some r)) left)
      at true e rest = done (revised_by gone changed r) refl rest
      at false e rest = (λ same none. h.0 (ap (λ o. is_in o r.number) (first_listed hs i d r.space lt e (eqb_same (get_or hs i d).space r.space ∙ same)) ∙ none), rest)

    pub one_space_more : (hs : List Holding) (i : ℕ) (d : Holding) (rows : List Row) → i < length hs → filter_map (revised_in (get_or hs i d).space) (filter_map (revised_of (take i hs)) rows) ≡ filter_map (revised_of (take (i + 1) hs)) rows
    one_space_more hs i d rows lt = compose (revised_of (take i hs)) (revised_in (get_or hs i d).space) (revised_of (take (i + 1) hs)) rows each_row where
      some_end : (s : ℕ) → is_some (listed_in (take (i + 1) hs) s) ≡ (is_some (listed_in (take i hs) s) || eqb (get_or hs i d).space s)
      some_end s = ap (λ w. is_some (listed_in w s)) (take_more hs i d lt) ∙ (ap is_some (listed_end (take i hs) (get_or hs i d) s) ∙ at (listed_in (take i hs) s) (eqb (get_or hs i d).space s)) where
        at : (o : Option (List ℕ)) (b : Bool) → is_some (cond (is_some o) o (option_map (λ (h : Holding). h.numbers) (cond b (Some (get_or hs i d)) None))) ≡ (is_some o || b)
        at (Some ns) b = refl
        at None true = refl
        at None false = refl

      again : (r : Row) (o : Option Row) → revised_by gone changed r ≡ o → option_and_then (revised_in (get_or hs i d).space) o ≡ o
      again r None e = refl
      again r (Some new) e = at (eqb new.space (get_or hs i d).space) where
        at : (b : Bool) → cond b (revised_by gone changed new) (Some new) ≡ Some new
        at true = stays r new e
        at false = refl

      each_row : (r : Row) → option_and_then (revised_in (get_or hs i d).space) (revised_of (take i hs) r) ≡ revised_of (take (i + 1) hs) r
      each_row r = rw (some_end r.space) (at (is_some (listed_in (take i hs) r.space))) where
        at : (b : Bool) → option_and_then (revised_in (get_or hs i d).space) (cond b (revised_by gone changed r) (Some r)) ≡ cond (b || eqb (get_or hs i d).space r.space) (revised_by gone changed r) (Some r)
        at true = again r (revised_by gone changed r) refl
        at false = ap (λ b. cond b (revised_by gone changed r) (Some r)) (eqb_same r.space (get_or hs i d).space)

  pub all_revised : (hs : List Holding) (rows : List Row) → AllByRecursion (λ (r : Row). is_in (listed_in hs r.space) r.number ≡ false → revised_by gone changed r ≡ Some r) rows → filter_map (revised_of hs) rows ≡ filter_map (revised_by gone changed) rows
  all_revised hs [] h = refl
  all_revised hs (r ∷ rows) h = cong (at (is_some (listed_in hs r.space)) refl) (all_revised hs rows h.1) where
    cong : {o q : Option Row} {us vs : List Row} → o ≡ q → us ≡ vs → cons_option o us ≡ cons_option q vs
    cong e g = cc

    at : (b : Bool) → is_some (listed_in hs r.space) ≡ b → cond b (revised_by gone changed r) (Some r) ≡ revised_by gone changed r
    at true e = refl
    at false e = sym (h.0 (ap (λ o. is_in o r.number) (none_some (listed_in hs r.space) e)))
