-- A space that isn't quiet can be quieted further, if each waiting request asks for at least one row.
use Rattle.std.proofs.Common.{◌≡◌, refl, ap, ℕ, zero, suc, ◌<◌, ◌≤◌, List, [], ◌∷◌, map, take, length, Bool, true, false, not, ◌&&◌, ◌||◌, ◌⊎◌, inl, inr, filter, find, min, Some, ◌==◌, nat_lt, arith, eqb-true, eq-eqb, length-take}
use Rattle.std.specs.List.{list_all}
use Rattle.std.proofs.lemmas.Bool.{and_parts, and_from, or_parts, lt-ltb, eqb-false, ne_eqb, not-false}
use Rattle.jsp_model.specs.declared.state.State.{State}
use Rattle.jsp_model.specs.declared.state.Registration.{Registration}
use Rattle.jsp_model.specs.declared.state.Blocked.{Blocked}
use Rattle.jsp_model.specs.declared.step.Step.{Step}
use Rattle.jsp_model.specs.declared.step.Step.TheVariants as step
use Rattle.jsp_model.specs.Lookup.{contains, blocked_of, registration_of}
use Rattle.jsp_model.specs.Sight.{is_if, is_available, available, has_conflict}
use Rattle.jsp_model.specs.Quiet.{must_wait, is_quiet}
use Rattle.jsp_model.specs.Steps.{is_rising, is_choice, is_legal}
use Rattle.jsp_laws.proofs.Lists.{Each, each_has, Has, all_taken}
use Rattle.jsp_laws.proofs.Sound.{row_number}
use Rattle.jsp_laws.proofs.Rising.{Rising, IsRising, rising_filter}
use Rattle.jsp_quiet.specs.Quieting.{quiets}

-- ---- lists

not_all : {A : Type 0} (t : A → Bool) (xs : List A) → list_all t xs ≡ false → (x : A) × Has xs x × (t x ≡ false)
not_all t [] e = absurd (cc)
not_all {A = A} t (x ∷ xs) e = go (t x) refl e (λ k. not_all t xs k)
  where
    go : (b : Bool) → t x ≡ b → (b && list_all t xs) ≡ false → (list_all t xs ≡ false → (y : A) × Has xs y × (t y ≡ false)) → (y : A) × ((x ≡ y) ⊎ Has xs y) × (t y ≡ false)
    go true k q ih = let (y, h, z) = ih q in (y, inr h, z)
    go false k q ih = (x, inl refl, k)

all_from : {A : Type 0} (t : A → Bool) (xs : List A) → ((x : A) → Has xs x → t x ≡ true) → list_all t xs ≡ true
all_from t [] h = refl
all_from t (x ∷ xs) h = and_from (t x) (list_all t xs) (h x (inl refl)) (all_from t xs (λ y k. h y (inr k)))

has_contains : (ns : List ℕ) (n : ℕ) → Has ns n → contains ns n ≡ true
has_contains [] n h = absurd h
has_contains (m ∷ ns) n (inl e) = let w : (m == n) ≡ true = eq-eqb m n e in rw w refl
has_contains (m ∷ ns) n (inr h) = go (m == n) (has_contains ns n h)
  where
    go : (b : Bool) → contains ns n ≡ true → (b || contains ns n) ≡ true
    go true k = refl
    go false k = k

taken_has : (m : ℕ) (ns : List ℕ) (n : ℕ) → Has (take m ns) n → Has ns n
taken_has zero ns n h = absurd h
taken_has (suc m) [] n h = absurd h
taken_has (suc m) (x ∷ ns) n (inl e) = inl e
taken_has (suc m) (x ∷ ns) n (inr h) = inr (taken_has m ns n h)

pub find_only : {A : Type 0} (f : A → ℕ) (xs : List A) (y : A) → Rising f xs → Has xs y → find (λ x. f x == f y) xs ≡ Some y
find_only f [] y r h = absurd h
find_only f (x ∷ xs) y (l, r) (inl e) = let w : (f x == f y) ≡ true = eq-eqb (f x) (f y) (ap f e) in rw w (ap Some e)
find_only f (x ∷ xs) y (l, r) (inr h) =
    let k : f x < f y = each_has (λ z. f x < f z) xs y l h in
    let w : (f x == f y) ≡ false = ne_eqb (f x) (f y) (λ q. omega (arith, k, q)) in
    rw w (find_only f xs y r h)

all_above : {A : Type 0} (f : A → ℕ) (n : ℕ) (xs : List A) → Each (λ x. n < f x) xs → list_all (nat_lt n) (map f xs) ≡ true
all_above f n [] h = refl
all_above f n (x ∷ xs) (h, hs) = and_from (nat_lt n (f x)) (list_all (nat_lt n) (map f xs)) (lt-ltb n (f x) h) (all_above f n xs hs)

is_rising_from : {A : Type 0} (f : A → ℕ) (xs : List A) → Rising f xs → is_rising (map f xs) ≡ true
is_rising_from f [] r = refl
is_rising_from f (x ∷ xs) (l, r) = and_from (list_all (nat_lt (f x)) (map f xs)) (is_rising (map f xs)) (all_above f (f x) xs l) (is_rising_from f xs r)

is_rising_taken : (m : ℕ) (ns : List ℕ) → is_rising ns ≡ true → is_rising (take m ns) ≡ true
is_rising_taken zero ns h = refl
is_rising_taken (suc m) [] h = refl
is_rising_taken (suc m) (n ∷ ns) h =
    let parts = and_parts (list_all (nat_lt n) ns) (is_rising ns) h in
    and_from (list_all (nat_lt n) (take m ns)) (is_rising (take m ns)) (all_taken (nat_lt n) m ns parts.0) (is_rising_taken m ns parts.1)

-- ---- the choice that a house can always make: the first rows that are available

pub first_choice : (st : State) (b : Blocked) → Rising row_number st.rows → is_choice st b (take b.most (available st b)) ≡ true
first_choice st b r =
    let ns : List ℕ = take b.most (available st b) in
    let rising : is_rising ns ≡ true = is_rising_taken b.most (available st b) (is_rising_from row_number (filter (is_available st b) st.rows) (rising_filter row_number (is_available st b) st.rows r)) in
    let among : list_all (contains (available st b)) ns ≡ true = all_from (contains (available st b)) ns (λ n h. has_contains (available st b) n (taken_has b.most (available st b) n h)) in
    let many : (length ns == min b.most (length (available st b))) ≡ true = eq-eqb (length ns) (min b.most (length (available st b))) (length-take b.most (available st b)) in
    and_from (is_rising ns && list_all (contains (available st b)) ns) _ (and_from (is_rising ns) (list_all (contains (available st b)) ns) rising among) many

-- ---- some step is legal

abbrev pub CanQuiet : State → Type 0
CanQuiet st = (act : Step) × (quiets act ≡ true) × (is_legal st act ≡ true)

pub can_tell : (st : State) (r : Registration) → IsRising st → Has st.registrations r → 0 < length r.owed → is_legal st (step.Tell r.number) ≡ true
unfolding is_legal
can_tell st r rise h e =
    let found : registration_of st r.number ≡ Some r = find_only (λ (r : Registration). r.number) st.registrations r rise.registrations h in
    rw found (lt-ltb 0 (length r.owed) e)

pub can_grant : (st : State) (b : Blocked) → IsRising st → Has st.blocked b → 1 ≤ b.most → 0 < length (available st b) → is_legal st (step.Grant b.number (take b.most (available st b))) ≡ true
unfolding is_legal
can_grant st b rise h m e =
    let found : blocked_of st b.number ≡ Some b = find_only (λ (b : Blocked). b.number) st.blocked b rise.blocked h in
    let l : length (take b.most (available st b)) ≡ min b.most (length (available st b)) = length-take b.most (available st b) in
    let some : 0 < length (take b.most (available st b)) = omega (arith, m, e, l) in
    rw found (and_from (nat_lt 0 (length (take b.most (available st b)))) _ (lt-ltb 0 (length (take b.most (available st b))) some) (first_choice st b rise.rows))

pub can_empty : (st : State) (b : Blocked) → IsRising st → Has st.blocked b → length (available st b) ≡ 0 → must_wait st b ≡ false → is_legal st (step.Empty b.number) ≡ true
unfolding is_legal
can_empty st b rise h k q =
    let found : blocked_of st b.number ≡ Some b = find_only (λ (b : Blocked). b.number) st.blocked b rise.blocked h in
    let none : (length (available st b) == 0) ≡ true = eq-eqb (length (available st b)) 0 k in
    let parts = or_parts (not (is_if b.form)) (has_conflict st b) (waits_for (length (available st b) == 0) (not (is_if b.form) || has_conflict st b) none q) in
    let i : is_if b.form ≡ true = not-false (is_if b.form) parts.0 in
    rw found (and_from (is_if b.form && length (available st b) == 0) _ (and_from (is_if b.form) (length (available st b) == 0) i none) (rw parts.1 refl))
  where
    waits_for : (x y : Bool) → x ≡ true → (x && y) ≡ false → y ≡ false
    waits_for true y e z = z
    waits_for false y e z = absurd (cc)

can_answer : (st : State) (b : Blocked) → IsRising st → Has st.blocked b → 1 ≤ b.most → must_wait st b ≡ false → CanQuiet st
can_answer st b rise h m e = go (length (available st b) == 0) refl
  where
    go : (d : Bool) → (length (available st b) == 0) ≡ d → CanQuiet st
    go true k = (step.Empty b.number, refl, can_empty st b rise h (eqb-true (length (available st b)) 0 k) e)
    go false k = let n : length (available st b) ≡ 0 → ⊥ = eqb-false (length (available st b)) 0 k in (step.Grant b.number (take b.most (available st b)), refl, can_grant st b rise h m (omega (arith, n)))

pub can_quiet : (st : State) (p : ℕ) → IsRising st → Each (λ (b : Blocked). 1 ≤ b.most) st.blocked → is_quiet st p ≡ false → CanQuiet st
unfolding is_quiet
can_quiet st p rise most e = go (list_all (λ b. not (b.space == p) || must_wait st b) st.blocked) refl e
  where
    by_request : ((b : Blocked) × Has st.blocked b × ((not (b.space == p) || must_wait st b) ≡ false)) → CanQuiet st
    by_request (b, h, k) = can_answer st b rise h (each_has (λ (b : Blocked). 1 ≤ b.most) st.blocked b most h) (or_parts (not (b.space == p)) (must_wait st b) k).1

    by_event : ((r : Registration) × Has st.registrations r × ((not (r.space == p) || length r.owed == 0) ≡ false)) → CanQuiet st
    by_event (r, h, k) = let n : length r.owed ≡ 0 → ⊥ = eqb-false (length r.owed) 0 (or_parts (not (r.space == p)) (length r.owed == 0) k).1 in (step.Tell r.number, refl, can_tell st r rise h (omega (arith, n)))

    go : (d : Bool) → list_all (λ b. not (b.space == p) || must_wait st b) st.blocked ≡ d → (d && list_all (λ r. not (r.space == p) || length r.owed == 0) st.registrations) ≡ false → CanQuiet st
    go true k q = by_event (not_all (λ r. not (r.space == p) || length r.owed == 0) st.registrations q)
    go false k q = by_request (not_all (λ b. not (b.space == p) || must_wait st b) st.blocked k)
