-- How many rows each space has.
use Rattle.std.proofs.Common.{◌≡◌, ℕ, zero, suc, ◌+◌, ◌-◌, ◌<◌, ◌≤◌, ◌^◌, Bool, true, false, not, cond, eqb, List, [], ◌∷◌, ◌++◌, length, take, get_or, map, Option, Some, None, refl, ap, sym, ◌∙◌, subst, arith}
use Rattle.std.specs.Prelude.{filter}
use Rattle.std.specs.List.{AllByRecursion}
use Rattle.std.specs.HashMap.{HashMap}
use Rattle.std.proofs.lemmas.Bool.Decides.{nat_tests}
use Rattle.std.proofs.lemmas.List.{take_more, length-take-le}
use Rattle.jsp_model.specs.declared.state.Row.{Row}
use Rattle.jsp_table.specs.Finding.{AreNumbered as AreRising}
use Rattle.jsp_table.specs.Counts.{HasCount}
use Rattle.jsp_table.specs.Places.{living}
use Rattle.jsp_table.proofs.Finding.{each}
use Rattle.jsp_keyed.proofs.Named.{All-append}
use Rattle.jsp_index.specs.Finding.{number, row_numbered}
use Rattle.jsp_index.proofs.Revisions.{eqb_same}
use Rattle.jsp_index.specs.Counted.{count_in, HaveRoom}

-- ---- the count of a list

module _ (space : ℕ) where
  pub in_both : (xs ys : List Row) → count_in space (xs ++ ys) ≡ count_in space xs + count_in space ys
  in_both [] ys = omega arith
  in_both (x ∷ xs) ys = at (eqb x.space space) (in_both xs ys) where
    at : (b : Bool) → count_in space (xs ++ ys) ≡ count_in space xs + count_in space ys
        → length (cond b (x ∷ filter (λ (r : Row). eqb r.space space) (xs ++ ys)) (filter (λ (r : Row). eqb r.space space) (xs ++ ys))) ≡ length (cond b (x ∷ filter (λ (r : Row). eqb r.space space) xs) (filter (λ (r : Row). eqb r.space space) xs)) + count_in space ys
    at true e = omega arith
    at false e = e

  pub no_more : (xs : List Row) → count_in space xs ≤ length xs
  no_more [] = omega arith
  no_more (x ∷ xs) = at (eqb x.space space) (no_more xs) where
    at : (b : Bool) → count_in space xs ≤ length xs → length (cond b (x ∷ filter (λ (r : Row). eqb r.space space) xs) (filter (λ (r : Row). eqb r.space space) xs)) ≤ suc (length xs)
    at true e = omega arith
    at false e = omega arith

  -- rows that change stay in their spaces
  pub in_changed : (f : Row → Row) (n : ℕ) (xs : List Row) → ((r : Row) → (f r).space ≡ r.space) → count_in space (map (λ (r : Row). cond (eqb r.number n) (f r) r) xs) ≡ count_in space xs
  in_changed f n [] keep = refl
  in_changed f n (x ∷ xs) keep = at (eqb x.number n) (eqb x.space space) refl (in_changed f n xs keep) where
    same : (b : Bool) → eqb (cond b (f x) x).space space ≡ eqb x.space space
    same true = ap (λ s. eqb s space) (keep x)
    same false = refl

    at : (b c : Bool) → eqb x.space space ≡ c → count_in space (map (λ (r : Row). cond (eqb r.number n) (f r) r) xs) ≡ count_in space xs
        → length (cond (eqb (cond b (f x) x).space space) (cond b (f x) x ∷ filter (λ (r : Row). eqb r.space space) (map (λ (r : Row). cond (eqb r.number n) (f r) r) xs)) (filter (λ (r : Row). eqb r.space space) (map (λ (r : Row). cond (eqb r.number n) (f r) r) xs))) ≡ length (cond (eqb x.space space) (x ∷ filter (λ (r : Row). eqb r.space space) xs) (filter (λ (r : Row). eqb r.space space) xs))
    at b true e rest = rw (same b, e) (ap suc rest)
    at b false e rest = rw (same b, e) rest

  -- the rows of one space go
  pub in_cleared : (p : ℕ) (xs : List Row) → count_in space (filter (λ (r : Row). not (eqb r.space p)) xs) ≡ cond (eqb space p) 0 (count_in space xs)
  in_cleared p [] = none 0 (eqb space p) where
    none : (n : ℕ) (b : Bool) → n ≡ cond b n n
    none n true = refl
    none n false = refl
  in_cleared p (x ∷ xs) = at (eqb x.space p) refl (eqb x.space space) refl (eqb space p) refl (in_cleared p xs) where
    eqb_eq : (a b : ℕ) → eqb a b ≡ true → a ≡ b
    eqb_eq a b h = grind (arith, nat_tests)

    at : (a : Bool) → eqb x.space p ≡ a → (b : Bool) → eqb x.space space ≡ b → (c : Bool) → eqb space p ≡ c
        → count_in space (filter (λ (r : Row). not (eqb r.space p)) xs) ≡ cond (eqb space p) 0 (count_in space xs)
        → count_in space (cond (not (eqb x.space p)) (x ∷ filter (λ (r : Row). not (eqb r.space p)) xs) (filter (λ (r : Row). not (eqb r.space p)) xs)) ≡ cond (eqb space p) 0 (length (cond (eqb x.space space) (x ∷ filter (λ (r : Row). eqb r.space space) xs) (filter (λ (r : Row). eqb r.space space) xs)))
    at true e b f true g rest = rw (e, g) (rest ∙ ap (λ c. cond c 0 (count_in space xs)) g)
    at true e true f false g rest = absurd (cc (g, ap (λ s. eqb s p) (eqb_eq x.space space f), e))
    at true e false f false g rest = rw (e, f, g) (rest ∙ ap (λ c. cond c 0 (count_in space xs)) g)
    at false e true f true g rest = absurd (cc (e, ap (λ s. eqb s p) (eqb_eq x.space space f), g))
    at false e false f true g rest = rw (e, f, g) (rest ∙ ap (λ c. cond c 0 (count_in space xs)) g)
    at false e true f false g rest = rw (e, f, g) (ap suc (rest ∙ ap (λ c. cond c 0 (count_in space xs)) g))
    at false e false f false g rest = rw (e, f, g) (rest ∙ ap (λ c. cond c 0 (count_in space xs)) g)

  -- the row of one number goes
  pub in_left : (n : ℕ) (xs : List Row) (r : Row) → AreRising number xs → row_numbered n xs ≡ Some r → count_in space (filter (λ (x : Row). not (eqb x.number n)) xs) + cond (eqb r.space space) 1 0 ≡ count_in space xs
  in_left n [] r up is = absurd (cc)
  in_left n (x ∷ xs) r up is = at (eqb x.number n) refl (λ there. in_left n xs r up.1 there) where
    some_same : {a b : Row} → Some a ≡ Some b → a ≡ b
    some_same e = cc

    eqb_eq : (a b : ℕ) → eqb a b ≡ true → a ≡ b
    eqb_eq a b h = grind (arith, nat_tests)

    all_stay : (ys : List Row) → AllByRecursion (λ (y : Row). x.number < y.number) ys → x.number ≡ n → filter (λ (y : Row). not (eqb y.number n)) ys ≡ ys
    all_stay [] h e = refl
    all_stay (y ∷ ys) h e = rw (apart y.number x.number n h.0 e) (ap (λ w. y ∷ w) (all_stay ys h.1 e)) where
      apart : (a b c : ℕ) → b < a → b ≡ c → eqb a c ≡ false
      apart a b c lt e = grind (arith, nat_tests)

    one : (b : Bool) (y : Row) (ys : List Row) → count_in space ys + cond b 1 0 ≡ length (cond b (y ∷ filter (λ (r : Row). eqb r.space space) ys) (filter (λ (r : Row). eqb r.space space) ys))
    one true y ys = omega arith
    one false y ys = omega arith

    this : x.number ≡ n → x ≡ r → count_in space (filter (λ (y : Row). not (eqb y.number n)) xs) + cond (eqb r.space space) 1 0 ≡ length (cond (eqb x.space space) (x ∷ filter (λ (r : Row). eqb r.space space) xs) (filter (λ (r : Row). eqb r.space space) xs))
    this e same = rw (all_stay xs up.0 e, ← same) (one (eqb x.space space) x xs)

    later : (b : Bool) (m a k : ℕ) → m + a ≡ k → (ys zs : List Row) → length ys ≡ m → length zs ≡ k → length (cond b (x ∷ ys) ys) + a ≡ length (cond b (x ∷ zs) zs)
    later true m a k e ys zs f g = omega arith
    later false m a k e ys zs f g = omega arith

    at : (b : Bool) → eqb x.number n ≡ b
        → (row_numbered n xs ≡ Some r → count_in space (filter (λ (x : Row). not (eqb x.number n)) xs) + cond (eqb r.space space) 1 0 ≡ count_in space xs)
        → count_in space (cond (not (eqb x.number n)) (x ∷ filter (λ (y : Row). not (eqb y.number n)) xs) (filter (λ (y : Row). not (eqb y.number n)) xs)) + cond (eqb r.space space) 1 0 ≡ length (cond (eqb x.space space) (x ∷ filter (λ (r : Row). eqb r.space space) xs) (filter (λ (r : Row). eqb r.space space) xs))
    at true e rest = rw e (this (eqb_eq x.number n e) (some_same (ap (λ b. cond b (Some x) (row_numbered n xs)) (sym e) ∙ is)))
    at false e rest = rw e (later (eqb x.space space) _ _ _ (rest (ap (λ b. cond b (Some x) (row_numbered n xs)) (sym e) ∙ is)) _ _ refl refl)

  -- one more row on the way
  pub in_next : (xs : List Row) (i : ℕ) (r : Row) → i < length xs → r ≡ get_or xs i r → count_in space (take (i + 1) xs) ≡ count_in space (take i xs) + cond (eqb space r.space) 1 0
  in_next xs i r lt is =
      let e : take (i + 1) xs ≡ take i xs ++ r ∷ [] = take_more xs i r lt ∙ ap (λ w. take i xs ++ w ∷ []) (sym is) in
      ap (count_in space) e ∙ (in_both (take i xs) (r ∷ []) ∙ ap (λ k. count_in space (take i xs) + k) (last (eqb r.space space) ∙ ap (λ b. cond b 1 0) (eqb_same r.space space))) where
        last : (b : Bool) → length (cond b (r ∷ []) []) ≡ cond b 1 0
        last true = refl
        last false = refl

-- ---- on the way over a list

pub fits_next : (space start now : ℕ) (rows : List Row) (i : ℕ) → i < length rows → now ≡ start + count_in space (take i rows) → start + length rows < 2 ^ 64 → now + 1 < 2 ^ 64
fits_next space start now rows i lt is fits = omega (arith, no_more space (take i rows), length-take-le i rows (omega arith))

pub one_more : (b : Bool) (new old start before after : ℕ) → new ≡ cond b (old + 1) old → old ≡ start + before → after ≡ before + cond b 1 0 → new ≡ start + after
one_more true new old start before after e f g = omega arith
one_more false new old start before after e f g = omega arith

pub one_less : (b : Bool) (new old start before after : ℕ) → new ≡ cond b (old - 1) old → old ≡ start - before → after ≡ before + cond b 1 0 → new ≡ start - after
one_less true new old start before after e f g = omega arith
one_less false new old start before after e f g = omega arith

pub one_gone : (b : Bool) (new old left all : ℕ) → new ≡ cond b (old - 1) old → old ≡ all → left + cond b 1 0 ≡ all → new ≡ left
one_gone true new old left all e f g = omega arith
one_gone false new old left all e f g = omega arith

module _ {S : Type 0} where
  pub room_at : (counts : HashMap ℕ ℕ S) (rows : List Row) (i : ℕ) (r : Row) → i < length rows → r ≡ get_or rows i r → HaveRoom counts rows → HasCount counts r.space
  room_at counts [] i r lt is h = absurd (omega arith)
  room_at counts (x ∷ rows) zero r lt is h = subst (λ (y : Row). HasCount counts y.space) (sym is) h.0
  room_at counts (x ∷ rows) (suc i) r lt is h = room_at counts rows i r (omega arith) is h.1

  pub room_stays : (old new : HashMap ℕ ℕ S) (rows : List Row) → ((k : ℕ) → HasCount old k → HasCount new k) → HaveRoom old rows → HaveRoom new rows
  room_stays old new rows keeps h = each (λ (r : Row). HasCount old r.space) (λ (r : Row). HasCount new r.space) rows h (λ r has. keeps r.space has)

  pub one_more_room : (old new : HashMap ℕ ℕ S) (rows : List Row) (i : ℕ) (r : Row) → i < length rows → r ≡ get_or rows i r → ((k : ℕ) → HasCount old k → HasCount new k) → HasCount new r.space → HaveRoom old (take i rows) → HaveRoom new (take (i + 1) rows)
  one_more_room old new rows i r lt is keeps this h =
      let e : take (i + 1) rows ≡ take i rows ++ r ∷ [] = take_more rows i r lt ∙ ap (λ w. take i rows ++ w ∷ []) (sym is) in
      subst (HaveRoom new) (sym e) (All-append (λ (r : Row). HasCount new r.space) (take i rows) (r ∷ []) (room_stays old new (take i rows) keeps h) (this, tt))

-- the rows stand at places
pub no_more_than_places : (places : List (Option Row)) → length (living places) ≤ length places
no_more_than_places [] = omega arith
no_more_than_places (x ∷ places) = at x (no_more_than_places places) where
  at : (o : Option Row) → length (living places) ≤ length places → length (living (o ∷ places)) ≤ suc (length places)
  at None h = omega arith
  at (Some r) h = omega arith

-- what is left is left still
pub left_twice : (p : Row → Bool) (rows : List Row) → filter p (filter p rows) ≡ filter p rows
left_twice p [] = refl
left_twice p (r ∷ rows) = at (p r) refl (left_twice p rows) where
  at : (b : Bool) → p r ≡ b → filter p (filter p rows) ≡ filter p rows → filter p (cond b (r ∷ filter p rows) (filter p rows)) ≡ cond b (r ∷ filter p rows) (filter p rows)
  at true e rest = rw e (ap (λ w. r ∷ w) rest)
  at false e rest = rest
