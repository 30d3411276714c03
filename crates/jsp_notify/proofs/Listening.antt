-- Registrations that are owed an event stay named at their spaces.
use Rattle.std.proofs.Common.{◌≡◌, ◌≢◌, ℕ, suc, ◌-◌, ◌<◌, take, drop, Bool, true, false, not, cond, eqb, ◌&&◌, List, [], ◌∷◌, length, map, Option, Some, None, refl, ap, sym, ◌∙◌, subst, arith}
use Rattle.std.specs.Prelude.{filter, find, nat_lt, is_none, ◌==◌, ◌||◌}
use Rattle.std.specs.List.{AllByRecursion, list_all}
use Rattle.std.specs.Option.{option_map_or}
use Rattle.std.proofs.lemmas.Bool.{eq-eqb, ne_eqb}
use Rattle.std.proofs.lemmas.Bool.Decides.{nat_tests}
use Rattle.jsp_types.specs.declared.class.Class.{Class}
use Rattle.jsp_types.specs.Matching.{matches}
use Rattle.jsp_model.specs.Sight.{is_free}
use Rattle.jsp_model.specs.declared.state.Row.{Row}
use Rattle.jsp_model.specs.declared.state.Registration.{Registration}
use Rattle.jsp_table.specs.Numbers.{contains}
use Rattle.jsp_table.specs.Finding.{numbered, is_hit, AreNumbered, AreNamed as AreNamedBy}
use Rattle.jsp_table.proofs.Finding.{each, both}
use Rattle.jsp_keyed.specs.Kept.{Keeps, KeepsOthers}
use Rattle.jsp_keyed.specs.Changing.{where_passed}
use Rattle.jsp_keyed.proofs.Walking.{and_both, eqb_eq, only_one}
use Rattle.jsp_notify.specs.Owing.{is_news, owed_one, owed_less}
use Rattle.jsp_notify.specs.Registered.{told_at_most, telling, registration_ending}
use Rattle.jsp_notify.specs.Waiting.{is_owed, IsNamed, AreNamed}
use Rattle.jsp_table.specs.Hints.{list_of, names}
use Rattle.jsp_table.specs.declared.hints.Hints.{Hints}

abbrev pub number : Registration → ℕ
number r = r.number

changed_all : (P Q : Registration → Type 0) (f : Registration → Registration) (rs : List Registration) → ((r : Registration) → P r → Q (f r)) → AllByRecursion P rs → AllByRecursion Q (map f rs)
changed_all P Q f [] keeps h = tt
changed_all P Q f (r ∷ rs) keeps h = (keeps r h.0, changed_all P Q f rs keeps h.1)

abbrev pub owed_at : ℕ → Registration → Bool
owed_at space r = r.space == space && is_owed r

pub still_named : (old new : Hints) (rs : List Registration) → Keeps old new → AreNamed old rs → AreNamed new rs
still_named old new rs keeps h = each (IsNamed old) (IsNamed new) rs h (λ r g owed. keeps r.space r.number (g owed))

pub one_less : (old new : Hints) (n : ℕ) (rs : List Registration) → KeepsOthers n old new → AreNamed old rs → AreNamed new (filter (λ r. not (eqb (number r) n)) rs)
one_less old new n [] keeps h = tt
one_less old new n (r ∷ rs) keeps h = at (eqb r.number n) refl (one_less old new n rs keeps h.1) where
  differs : eqb r.number n ≡ false → r.number ≢ n
  differs e same = absurd (cc (e, eq-eqb r.number n same))

  at : (b : Bool) → eqb r.number n ≡ b → AreNamed new (filter (λ r. not (eqb (number r) n)) rs) → AreNamed new (cond (not b) (r ∷ filter (λ r. not (eqb (number r) n)) rs) (filter (λ r. not (eqb (number r) n)) rs))
  at true e rest = rest
  at false e rest = ((λ owed. keeps r.space r.number (differs e) (h.0 owed)), rest)

-- ---- changes

-- those that are owed one row more are named
pub more_named : (old new : Hints) (hears : Registration → Bool) (n : ℕ) (rs : List Registration) → Keeps old new
    → AllByRecursion (λ r. hears r ≡ true → names new r.space r.number ≡ true) rs → AreNamed old rs → AreNamed new (map (where_passed hears (owed_one n)) rs)
more_named old new hears n rs keeps listed h =
    changed_all (λ r. (hears r ≡ true → names new r.space r.number ≡ true) × IsNamed old r) (IsNamed new) (where_passed hears (owed_one n)) rs
    (λ r two. at r (hears r) refl two.0 two.1)
    (both (λ r. hears r ≡ true → names new r.space r.number ≡ true) (IsNamed old) (λ r. (hears r ≡ true → names new r.space r.number ≡ true) × IsNamed old r) rs listed h (λ r f g. (f, g))) where
      at : (r : Registration) (b : Bool) → hears r ≡ b → (hears r ≡ true → names new r.space r.number ≡ true) → IsNamed old r → IsNamed new (cond b (owed_one n r) r)
      at r true e f g = λ owed. f e
      at r false e f g = λ owed. keeps r.space r.number (g owed)

-- those to which the row is news are named
pub owed_named : (old new : Hints) (classes : List Class) (caller : Option ℕ) (row : Row) (rs : List Registration) → Keeps old new
    → AllByRecursion (λ r. is_news classes caller r row ≡ true → names new r.space r.number ≡ true) rs → AreNamed old rs → AreNamed new (map (where_passed (λ r. is_news classes caller r row) (owed_one row.number)) rs)
owed_named old new classes caller row rs keeps listed h = more_named old new (λ r. is_news classes caller r row) row.number rs keeps listed h

-- a registration that is owed no more than before is named as before
pub no_more_owed : (hints : Hints) (f : Registration → Registration) (rs : List Registration) → ((r : Registration) → IsNamed hints r → IsNamed hints (f r)) → AreNamed hints rs → AreNamed hints (map f rs)
no_more_owed hints f rs keeps h = changed_all (IsNamed hints) (IsNamed hints) f rs keeps h

-- the one of that number is owed nothing
pub one_told : (old new : Hints) (n : ℕ) (r : Registration) (rs : List Registration) → AreNumbered number rs → numbered number n rs ≡ Some r → (length r.owed == 0) ≡ true → KeepsOthers n old new → AreNamed old rs → AreNamed new rs
one_told old new n r rs up is none keeps h =
    both (λ x. number x ≡ n → x ≡ r) (IsNamed old) (IsNamed new) rs (only_one number n rs r up is) h
    (λ x only g owed. keeps x.space x.number (other x only owed) (g owed)) where
      other : (x : Registration) → (number x ≡ n → x ≡ r) → is_owed x ≡ true → x.number ≢ n
      other x only owed e = absurd (cc (owed, ap is_owed (only e), ap not none))

-- a row is news at its space alone
pub at_its_space : (hints : Hints) (classes : List Class) (caller : Option ℕ) (row : Row) (r : Registration) → is_news classes caller r row ≡ true → names hints row.space r.number ≡ true → names hints r.space r.number ≡ true
at_its_space hints classes caller row r e h =
    let here = (and_both (is_free r.transaction caller) (r.space == row.space && matches classes r.template row.entry) e).1 in
    let same = (and_both (r.space == row.space) (matches classes r.template row.entry) here).0 in
    subst (λ (s : ℕ). names hints s r.number ≡ true) (sym (eqb_eq r.space row.space same)) h

-- those that pass a test, to whom the row is news, are among the listeners, who are named at its space
pub listeners_named : (hints : Hints) (classes : List Class) (caller : Option ℕ) (row : Row) (hears : Registration → Bool) (listeners : List ℕ) (rs : List Registration)
    → ((r : Registration) → hears r ≡ true → is_news classes caller r row ≡ true) → AllByRecursion (λ r. 0 < number r) rs
    → AreNamedBy number hears listeners rs → ((n : ℕ) → 0 < n → contains listeners n ≡ true → names hints row.space n ≡ true)
    → AllByRecursion (λ r. hears r ≡ true → names hints r.space r.number ≡ true) rs
listeners_named hints classes caller row hears listeners rs news positive among named =
    both (λ r. 0 < number r) (λ r. hears r ≡ true → contains listeners (number r) ≡ true) (λ r. hears r ≡ true → names hints r.space r.number ≡ true) rs positive among
    (λ r up there e. at_its_space hints classes caller row r (news r e) (named r.number up (there e)))

-- ---- who is owed an event at a space

at_space : (hints : Hints) (space : ℕ) (r : Registration) → IsNamed hints r → owed_at space r ≡ true → names hints space r.number ≡ true
at_space hints space r h e =
    let two = and_both (r.space == space) (is_owed r) e in
    subst (λ (s : ℕ). names hints s r.number ≡ true) (eqb_eq r.space space two.0) (h two.1)

pub none_at : (hints : Hints) (space : ℕ) (rs : List Registration) → list_of hints space ≡ None → AreNamed hints rs → find (owed_at space) rs ≡ None
none_at hints space [] none h = refl
none_at hints space (r ∷ rs) none h = at (owed_at space r) refl (none_at hints space rs none h.1) where
  at : (b : Bool) → owed_at space r ≡ b → find (owed_at space) rs ≡ None → cond b (Some r) (find (owed_at space) rs) ≡ None
  at true e rest = absurd (cc (at_space hints space r h.0 e, ap (λ o. option_map_or (λ ns. contains ns r.number) o false) none))
  at false e rest = rest

pub named_at : (hints : Hints) (space : ℕ) (ns : List ℕ) (rs : List Registration) → list_of hints space ≡ Some ns → AllByRecursion (λ r. 0 < number r) rs → AreNamed hints rs
    → find (is_hit number (owed_at space) ns 0) rs ≡ find (owed_at space) rs
named_at hints space ns [] some up h = refl
named_at hints space ns (r ∷ rs) some up h = rw (same (owed_at space r) refl, named_at hints space ns rs some up.1 h.1) refl where
  yes : (n : ℕ) → 0 < n → nat_lt 0 n ≡ true
  yes n lt = grind (arith, nat_tests)

  same : (b : Bool) → owed_at space r ≡ b → is_hit number (owed_at space) ns 0 r ≡ owed_at space r
  same true e =
      let there : contains ns r.number ≡ true = sym (ap (λ o. option_map_or (λ ns. contains ns r.number) o false) some) ∙ at_space hints space r h.0 e in
      rw (yes r.number up.0, there) refl
  same false e = at (nat_lt 0 r.number) (contains ns r.number) where
    at : (c d : Bool) → (c && (d && owed_at space r)) ≡ owed_at space r
    at true true = refl
    at true false = sym e
    at false d = sym e

-- nobody is found where none is owed an event
pub nobody_at : (space : ℕ) (rs : List Registration) → is_none (find (owed_at space) rs) ≡ list_all (λ r. not (r.space == space) || length r.owed == 0) rs
nobody_at space [] = refl
nobody_at space (r ∷ rs) = at (r.space == space) (length r.owed == 0) (nobody_at space rs) where
  at : (a b : Bool) → is_none (find (owed_at space) rs) ≡ list_all (λ r. not (r.space == space) || length r.owed == 0) rs
      → is_none (cond (a && not b) (Some r) (find (owed_at space) rs)) ≡ ((not a || b) && list_all (λ r. not (r.space == space) || length r.owed == 0) rs)
  at true true e = e
  at true false e = refl
  at false b e = e

-- ---- what changes keep

nonzero : (n : ℕ) → not (eqb (suc n) 0) ≡ true
nonzero n = rw (ne_eqb (suc n) 0 (differs n)) refl where
  differs : (n : ℕ) → suc n ≡ 0 → ⊥
  differs n e = omega arith

-- where something is left, something was there
was_owed : (f : List ℕ → List ℕ) → f [] ≡ [] → (xs : List ℕ) → not (length (f xs) == 0) ≡ true → not (length xs == 0) ≡ true
was_owed f none [] e = absurd (cc (e, ap (λ (w : List ℕ). not (length w == 0)) none))
was_owed f none (x ∷ xs) e = nonzero (length xs)

pub less_owed : (hints : Hints) (hears : Registration → Bool) (r : Registration) → IsNamed hints r → IsNamed hints (where_passed hears owed_less r)
less_owed hints hears r h = at (hears r) where
  at : (b : Bool) → IsNamed hints (cond b (owed_less r) r)
  at true = λ owed. h (was_owed (λ xs. take (length xs - 1) xs) refl r.owed owed)
  at false = h

pub told_less : (hints : Hints) (n : ℕ) (r : Registration) → IsNamed hints r → IsNamed hints (telling n r)
told_less hints n r h = at (eqb r.number n) where
  at : (b : Bool) → IsNamed hints (cond b (told_at_most r) r)
  at true = λ owed. h (was_owed (drop 1) refl r.owed owed)
  at false = h

pub same_owed : (hints : Hints) (n end : ℕ) (r : Registration) → IsNamed hints r → IsNamed hints (registration_ending n end r)
same_owed hints n end r h = at (eqb r.number n) where
  at : (b : Bool) → IsNamed hints (cond b (record r { end = end }) r)
  at true = h
  at false = h
