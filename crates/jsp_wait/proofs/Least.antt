-- The first of those that may be given one of several rows, found row by row.
use Rattle.std.proofs.Common.{◌≡◌, ◌≢◌, ℕ, zero, suc, ◌+◌, ◌<◌, Bool, true, false, cond, ◌&&◌, ◌||◌, List, [], ◌∷◌, length, arith, take, Option, Some, None, refl, ap, sym, ◌∙◌, ◌⊎◌}
use Rattle.std.proofs.lemmas.Bool.{eq-eqb, ne_eqb}
use Rattle.jsp_types.specs.declared.class.Class.{Class}
use Rattle.jsp_types.specs.Matching.{matches}
use Rattle.jsp_model.specs.declared.state.Row.{Row}
use Rattle.std.specs.Prelude.{find, slice_index, ◌==◌}
use Rattle.std.specs.List.{list_any}
use Rattle.jsp_model.specs.declared.state.Blocked.{Blocked}
use Rattle.jsp_table.specs.Finding.{AreNumbered}
use Rattle.jsp_table.proofs.Rising.{or_cases}
use Rattle.jsp_keyed.specs.Finding.{IsLeast}
use Rattle.jsp_keyed.proofs.Least.{found_least}
use Rattle.jsp_keyed.proofs.Named.{any_more}
use Rattle.jsp_keyed.proofs.Walking.{and_both, eqb_eq}
use Rattle.jsp_sight.specs.Rows.{wanted}
use Rattle.jsp_wait.specs.Offered.{IsAsked, takes_one, waits_no_more}

abbrev pub number : Blocked → ℕ
number b = b.number

-- ---- who asks for a row

pub asked_here : (classes : List Class) (o : Option Row) (row : Row) (b : Blocked) → Some row ≡ o → IsAsked classes o b → wanted classes b row ≡ true
asked_here classes None row b is h = absurd h
asked_here classes (Some r) row b is h = ap (wanted classes b) (some_same is) ∙ h where
  some_same : {a b : Row} → Some a ≡ Some b → a ≡ b
  some_same e = cc

pub not_asked : (classes : List Class) (o : Option Row) (b : Blocked) → None ≡ o → IsAsked classes o b → ⊥
not_asked classes None b is h = h
not_asked classes (Some r) b is h = absurd (cc)

pub asked_at : (classes : List Class) (b : Blocked) (row : Row) → wanted classes b row ≡ true → row.space ≡ b.space
asked_at classes b row h = eqb_eq row.space b.space (and_both (row.space == b.space) (list_any (λ t. matches classes t row.entry) b.templates) h).0

find_same : (p q : Blocked → Bool) (xs : List Blocked) → ((b : Blocked) → p b ≡ q b) → find p xs ≡ find q xs
find_same p q [] h = refl
find_same p q (x ∷ xs) h = rw (h x) (ap (λ o. cond (q x) (Some x) o) (find_same p q xs h))

-- where whoever passes is at the space
pub all_there : (p : Blocked → Bool) (space : ℕ) (xs : List Blocked) → ((b : Blocked) → p b ≡ true → b.space ≡ space) → find p xs ≡ find (λ b. b.space == space && p b) xs
all_there p space xs h = find_same p (λ b. b.space == space && p b) xs (λ b. at b (p b) refl) where
  at : (b : Blocked) (c : Bool) → p b ≡ c → c ≡ (b.space == space && c)
  at b true e = rw (eq-eqb b.space space (h b e)) refl
  at b false e = sym (and_false (b.space == space)) where
    and_false : (c : Bool) → (c && false) ≡ false
    and_false true = refl
    and_false false = refl

-- where whoever passes is elsewhere
pub none_there : (p : Blocked → Bool) (space : ℕ) (xs : List Blocked) → ((b : Blocked) → p b ≡ true → b.space ≢ space) → None ≡ find (λ b. b.space == space && p b) xs
none_there p space [] h = refl
none_there p space (x ∷ xs) h = at (p x) refl (none_there p space xs h) where
  at : (c : Bool) → p x ≡ c → None ≡ find (λ b. b.space == space && p b) xs → None ≡ cond (x.space == space && p x) (Some x) (find (λ b. b.space == space && p b) xs)
  at true e rest = rw (ne_eqb x.space space (h x e)) rest
  at false e rest = rw (e, and_false (x.space == space)) rest where
    and_false : (c : Bool) → (c && false) ≡ false
    and_false true = refl
    and_false false = refl

pub none_passes_at_all : (p : Blocked → Bool) (xs : List Blocked) → ((b : Blocked) → p b ≡ true → ⊥) → None ≡ find p xs
none_passes_at_all p [] h = refl
none_passes_at_all p (x ∷ xs) h = at (p x) refl (none_passes_at_all p xs h) where
  at : (c : Bool) → p x ≡ c → None ≡ find p xs → None ≡ cond c (Some x) (find p xs)
  at true e rest = absurd (h x e)
  at false e rest = rest

module _ (taker : ℕ → Blocked → Bool) (space : ℕ) where
  abbrev pub takes_at : ℕ → Blocked → Bool
  takes_at n b = b.space == space && taker n b

  or_first : (a b : Bool) → a ≡ true → (a || b) ≡ true
  or_first true b h = refl
  or_first false b h = absurd (cc)

  or_second : (a b : Bool) → b ≡ true → (a || b) ≡ true
  or_second true b h = refl
  or_second false b h = h

  and_true : (a b : Bool) → a ≡ true → b ≡ true → (a && b) ≡ true
  and_true a b h k = rw (h, k) refl

  any_at : (ns : List ℕ) (i : ℕ) (b : Blocked) → i < length ns → taker (slice_index ns i) b ≡ true → list_any (λ n. taker n b) ns ≡ true
  any_at [] i b lt h = absurd (omega arith)
  any_at (n ∷ ns) zero b lt h = or_first (taker n b) (list_any (λ n. taker n b) ns) h
  any_at (n ∷ ns) (suc i) b lt h = or_second (taker n b) (list_any (λ n. taker n b) ns) (any_at ns i b (omega arith) h)

  -- who is found for one of the rows is the first of those that may be given that one
  pub one_of_them : (ns : List ℕ) (i : ℕ) (xs : List Blocked) → AreNumbered number xs → i < length ns
      → IsLeast number (takes_one taker space ns) (λ b. taker (slice_index ns i) b) xs (find (takes_at (slice_index ns i)) xs)
  one_of_them ns i xs up lt =
      found_least number (takes_one taker space ns) (takes_at (slice_index ns i)) (λ b. taker (slice_index ns i) b) xs up
      (λ b h. let two = and_both (b.space == space) (taker (slice_index ns i) b) h in and_true (b.space == space) (list_any (λ n. taker n b) ns) two.0 (any_at ns i b lt two.1))
      (λ b h k. and_true (b.space == space) (taker (slice_index ns i) b) (and_both (b.space == space) (list_any (λ n. taker n b) ns) h).0 k)

  pub split_more : (ns : List ℕ) (i : ℕ) (b : Blocked) → i < length ns → list_any (λ n. taker n b) (take (i + 1) ns) ≡ true → (list_any (λ n. taker n b) (take i ns) ≡ true) ⊎ (taker (slice_index ns i) b ≡ true)
  split_more ns i b lt h = any_more (λ n. taker n b) ns i lt h

  pub all_of_kind : (ns : List ℕ) (b : Blocked) → takes_one taker space ns b ≡ true → list_any (λ n. taker n b) ns ≡ true
  all_of_kind ns b h = (and_both (b.space == space) (list_any (λ n. taker n b) ns) h).1

  module _ (freed : Blocked → Bool) where
    abbrev pub freed_at : Blocked → Bool
    freed_at b = b.space == space && freed b

    pub taker_part : (ns : List ℕ) (xs : List Blocked) → AreNumbered number xs → IsLeast number (waits_no_more taker freed space ns) (λ b. list_any (λ n. taker n b) ns) xs (find (takes_one taker space ns) xs)
    taker_part ns xs up =
        found_least number (waits_no_more taker freed space ns) (takes_one taker space ns) (λ b. list_any (λ n. taker n b) ns) xs up
        (λ b h. let two = and_both (b.space == space) (list_any (λ n. taker n b) ns) h in and_true (b.space == space) (list_any (λ n. taker n b) ns || freed b) two.0 (or_first (list_any (λ n. taker n b) ns) (freed b) two.1))
        (λ b h k. and_true (b.space == space) (list_any (λ n. taker n b) ns) (and_both (b.space == space) (list_any (λ n. taker n b) ns || freed b) h).0 k)

    pub freed_part : (ns : List ℕ) (xs : List Blocked) → AreNumbered number xs → IsLeast number (waits_no_more taker freed space ns) freed xs (find freed_at xs)
    freed_part ns xs up =
        found_least number (waits_no_more taker freed space ns) freed_at freed xs up
        (λ b h. let two = and_both (b.space == space) (freed b) h in and_true (b.space == space) (list_any (λ n. taker n b) ns || freed b) two.0 (or_second (list_any (λ n. taker n b) ns) (freed b) two.1))
        (λ b h k. and_true (b.space == space) (freed b) (and_both (b.space == space) (list_any (λ n. taker n b) ns || freed b) h).0 k)

    pub either_part : (ns : List ℕ) (b : Blocked) → (list_any (λ n. taker n b) ns || freed b) ≡ true → (list_any (λ n. taker n b) ns ≡ true) ⊎ (freed b ≡ true)
    either_part ns b h = or_cases (list_any (λ n. taker n b) ns) (freed b) h

    pub all_stirred : (ns : List ℕ) (b : Blocked) → waits_no_more taker freed space ns b ≡ true → (list_any (λ n. taker n b) ns || freed b) ≡ true
    all_stirred ns b h = (and_both (b.space == space) (list_any (λ n. taker n b) ns || freed b) h).1
