-- The classes that were seen in the spaces of rows.
use Rattle.std.proofs.Common.{◌≡◌, ℕ, ◌+◌, ◌<◌, Bool, true, false, not, cond, ◌&&◌, ◌||◌, eqb, List, [], ◌∷◌, ◌++◌, length, take, get_or, map, refl, ap, sym, ◌∙◌, subst, arith}
use Rattle.std.specs.Prelude.{bytes_eq, filter, ◌==◌}
use Rattle.std.specs.Bool.{OnTrue}
use Rattle.std.specs.List.{list_any, AllByRecursion}
use Rattle.std.specs.HashMap.{HashMap}
use Rattle.std.proofs.lemmas.Bool.Decides.{nat_tests}
use Rattle.std.proofs.lemmas.List.{take_more}
use Rattle.std.proofs.lemmas.Slice.Eq.{bytes_eq-Decides}
use Rattle.jsp_types.specs.declared.entry.Entry.{Entry}
use Rattle.jsp_model.specs.declared.state.Row.{Row}
use Rattle.jsp_table.specs.Numbers.{contains}
use Rattle.jsp_table.specs.Finding.{AreNamed}
use Rattle.jsp_table.proofs.Finding.{each}
use Rattle.jsp_keyed.proofs.Named.{All-append}
use Rattle.jsp_index.specs.Finding.{number}
use Rattle.jsp_index.specs.Seen.{IsAmong, IsSeen, AreSeen, KeepsSeen, seen_in}

among_end : (seen : List (List ℕ)) (class : List ℕ) → IsAmong (seen ++ class ∷ []) class
among_end [] class = same (bytes_eq class class) ((bytes_eq-Decides class class).1 refl) where
  same : (b : Bool) → b ≡ true → (b || false) ≡ true
  same true h = refl
  same false h = absurd (cc)
among_end (c ∷ seen) class = or_true (bytes_eq c class) (list_any (λ c. bytes_eq c class) (seen ++ class ∷ [])) (among_end seen class) where
  or_true : (a b : Bool) → b ≡ true → (a || b) ≡ true
  or_true true b h = refl
  or_true false b h = h

pub seen_now : (seen new : List (List ℕ)) (copy class : List ℕ) → new ≡ seen ++ copy ∷ [] → copy ≡ class → IsAmong new class
seen_now seen new copy class is same = subst (λ (w : List (List ℕ)). IsAmong w class) (sym (is ∙ ap (λ w. seen ++ w ∷ []) same)) (among_end seen class)

-- what is among them and isn't what goes stays among them
pub among_left : (gone class : List ℕ) (seen : List (List ℕ)) → bytes_eq class gone ≡ false → IsAmong seen class → IsAmong (filter (λ c. not (bytes_eq c gone)) seen) class
among_left gone class [] other h = absurd (cc)
among_left gone class (c ∷ seen) other h = at (bytes_eq c gone) refl (bytes_eq c class) refl (among_left gone class seen other) h where
  left : List (List ℕ)
  left = filter (λ c. not (bytes_eq c gone)) seen

  at : (b : Bool) → bytes_eq c gone ≡ b → (d : Bool) → bytes_eq c class ≡ d → (IsAmong seen class → IsAmong left class) → (d || list_any (λ c. bytes_eq c class) seen) ≡ true → IsAmong (cond (not b) (c ∷ left) left) class
  at true e true f rest h = absurd (cc (other, ap (λ w. bytes_eq w gone) ((bytes_eq-Decides c class).0 f), e))
  at true e false f rest h = rest h
  at false e true f rest h = rw f refl
  at false e false f rest h = rw f (rest h)

-- a list of one number has no other
pub only_named : (ns : List ℕ) (n : ℕ) (b : Bool) → length ns ≡ 1 → b ≡ contains ns n → OnTrue b ((m : ℕ) → contains ns m ≡ true → m ≡ n)
only_named ns n false one is = tt
only_named [] n true one is = absurd (omega (arith, one))
only_named (k ∷ []) n true one is = λ m there. same k n m (or_none (eqb k n) (sym is)) (or_none (eqb k m) there) where
  or_none : (b : Bool) → (b || false) ≡ true → b ≡ true
  or_none true h = refl
  or_none false h = h

  same : (a b d : ℕ) → eqb a b ≡ true → eqb a d ≡ true → d ≡ b
  same a b d f g = grind (arith, nat_tests)
only_named (k ∷ l ∷ ns) n true one is = absurd (omega (arith, one))

-- where a list of all rows of a kind has no number but one, no other row is of the kind
pub last_of_kind : (ns : List ℕ) (n : ℕ) (kind : Row → Bool) (rows : List Row) (b : Bool) → AreNamed number kind ns rows → OnTrue b ((m : ℕ) → contains ns m ≡ true → m ≡ n) → OnTrue b (AllByRecursion (λ (r : Row). kind r ≡ true → r.number ≡ n) rows)
last_of_kind ns n kind rows false named only = tt
last_of_kind ns n kind rows true named only = each (λ (r : Row). kind r ≡ true → contains ns r.number ≡ true) (λ (r : Row). kind r ≡ true → r.number ≡ n) rows named (λ r f h. only r.number (f h))

pub if_true : (b : Bool) (P : Type 0) → b ≡ true → OnTrue b P → P
if_true true P e h = h
if_true false P e h = absurd (cc)

module _ {S : Type 0} where
  pub still_seen : (seen more : HashMap ℕ (List (List ℕ)) S) (rows : List Row) → KeepsSeen seen more → AreSeen seen rows → AreSeen more rows
  still_seen seen more rows keeps h = each (λ row. IsSeen seen row.space row.entry.class) (λ row. IsSeen more row.space row.entry.class) rows h (λ row g. keeps row.space row.entry.class g)

  pub one_seen : (seen more : HashMap ℕ (List (List ℕ)) S) (rows : List Row) (i : ℕ) (row : Row) → i < length rows → row ≡ get_or rows i row → KeepsSeen seen more → IsSeen more row.space row.entry.class → AreSeen seen (take i rows) → AreSeen more (take (i + 1) rows)
  one_seen seen more rows i row lt is keeps this h =
      let e : take (i + 1) rows ≡ take i rows ++ row ∷ [] = take_more rows i row lt ∙ ap (λ w. take i rows ++ w ∷ []) (sym is) in
      subst (AreSeen more) (sym e) (All-append (λ row. IsSeen more row.space row.entry.class) (take i rows) (row ∷ []) (still_seen seen more (take i rows) keeps h) (this, tt))

  -- a row that changes keeps its space and its class
  pub changed_seen : (seen : HashMap ℕ (List (List ℕ)) S) (f : Row → Row) (n : ℕ) (rows : List Row) → ((r : Row) → (f r).entry ≡ r.entry) → ((r : Row) → (f r).space ≡ r.space) → AreSeen seen rows → AreSeen seen (map (λ (r : Row). cond (eqb r.number n) (f r) r) rows)
  changed_seen seen f n [] keep stay h = tt
  changed_seen seen f n (r ∷ rows) keep stay h = (at (eqb r.number n), changed_seen seen f n rows keep stay h.1) where
    at : (b : Bool) → IsSeen seen (cond b (f r) r).space (cond b (f r) r).entry.class
    at true = subst (λ (s : ℕ). IsSeen seen s (f r).entry.class) (sym (stay r)) (subst (λ (e : Entry). IsSeen seen r.space e.class) (sym (keep r)) h.0)
    at false = h.0

  -- the last of a class goes, and the class with it
  pub last_forgotten : (seen less : HashMap ℕ (List (List ℕ)) S) (n space : ℕ) (class : List ℕ) (rows : List Row) → ((s : ℕ) (c : List ℕ) → (s == space && bytes_eq c class) ≡ false → IsSeen seen s c → IsSeen less s c)
      → AllByRecursion (λ (r : Row). (r.space == space && bytes_eq r.entry.class class) ≡ true → r.number ≡ n) rows → AreSeen seen rows → AreSeen less (filter (λ (r : Row). not (eqb r.number n)) rows)
  last_forgotten seen less n space class [] keeps alone h = tt
  last_forgotten seen less n space class (r ∷ rows) keeps alone h = at (eqb r.number n) refl (eqb r.space space && bytes_eq r.entry.class class) refl (last_forgotten seen less n space class rows keeps alone.1 h.1) where
    left : List Row
    left = filter (λ (r : Row). not (eqb r.number n)) rows

    same : (a b : ℕ) → a ≡ b → eqb a b ≡ true
    same a b f = grind (arith, nat_tests)

    at : (b : Bool) → eqb r.number n ≡ b → (d : Bool) → (eqb r.space space && bytes_eq r.entry.class class) ≡ d → AreSeen less left → AreSeen less (cond (not b) (r ∷ left) left)
    at true e d f rest = rest
    at false e true f rest = absurd (cc (same r.number n (alone.0 f), e))
    at false e false f rest = (keeps r.space r.entry.class f h.0, rest)

  -- the rows of a space go, and its classes with them
  pub space_forgotten : (seen less : HashMap ℕ (List (List ℕ)) S) (space : ℕ) (rows : List Row) → ((s : ℕ) → seen_in less s ≡ cond (eqb s space) [] (seen_in seen s)) → AreSeen seen rows → AreSeen less (filter (λ (r : Row). not (eqb r.space space)) rows)
  space_forgotten seen less space [] is h = tt
  space_forgotten seen less space (r ∷ rows) is h = at (eqb r.space space) refl (space_forgotten seen less space rows is h.1) where
    left : List Row
    left = filter (λ (r : Row). not (eqb r.space space)) rows

    at : (b : Bool) → eqb r.space space ≡ b → AreSeen less left → AreSeen less (cond (not b) (r ∷ left) left)
    at true e rest = rest
    at false e rest = (subst (λ (w : List (List ℕ)). IsAmong w r.entry.class) (sym (is r.space ∙ ap (λ b. cond b [] (seen_in seen r.space)) e)) h.0, rest)
