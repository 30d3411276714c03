-- Lists that get shorter, and whose elements change little.
use Rattle.std.proofs.Common.{◌∙◌, ◌++◌, not, refl, ap, is_some, ◌≡◌, ℕ, ◌+◌, ◌<◌, ◌≤◌, Bool, true, false, nat_lt, List, [], ◌∷◌, map, length, Some, arith, length-append}
use Rattle.std.specs.Prelude.{filter, find, ◌&&◌, ◌||◌, ◌==◌, cond}
use Rattle.std.specs.List.{list_all, list_any}
use Rattle.std.proofs.lemmas.List.{map-append}
use Rattle.std.proofs.lemmas.Bool.Decides.{nat_tests}
use Rattle.std.proofs.lemmas.Bool.{and_parts, and_from, eqb-true, lt-ltb, ltb-true, not-true, or_parts}
use Rattle.jsp_model.specs.Lookup.{update, contains}
use Rattle.jsp_model.specs.Limits.{are_rising, are_apart}

-- the second list is the first one, where some elements are gone and the others became related ones
pub data Fewer {A : Type 0} (R : A → A → Type 0) : List A → List A → Type 0 where
  done : Fewer R [] []
  dropped : {xs ys : List A} (x : A) → Fewer R xs ys → Fewer R (x ∷ xs) ys
  kept : {xs ys : List A} (x y : A) → R x y → Fewer R xs ys → Fewer R (x ∷ xs) (y ∷ ys)

-- ---- how lists get fewer

pub fewer_same : {A : Type 0} {R : A → A → Type 0} → ((x : A) → R x x) → (xs : List A) → Fewer R xs xs
fewer_same r [] = done
fewer_same r (x ∷ xs) = kept x x (r x) (fewer_same r xs)

pub fewer_filter : {A : Type 0} {R : A → A → Type 0} → ((x : A) → R x x) → (t : A → Bool) (xs : List A) → Fewer R xs (filter t xs)
fewer_filter r t [] = done
fewer_filter {R = R} r t (x ∷ xs) = go (t x) (fewer_filter r t xs)
  where
    go : (b : Bool) → Fewer R xs (filter t xs) → Fewer R (x ∷ xs) (cond b (x ∷ filter t xs) (filter t xs))
    go true h = kept x x (r x) h
    go false h = dropped x h

pub fewer_map : {A : Type 0} {R : A → A → Type 0} (f : A → A) → ((x : A) → R x (f x)) → (xs : List A) → Fewer R xs (map f xs)
fewer_map f r [] = done
fewer_map f r (x ∷ xs) = kept x (f x) (r x) (fewer_map f r xs)

pub fewer_update : {A : Type 0} {R : A → A → Type 0} → ((x : A) → R x x) → (t : A → Bool) (f : A → A) → ((x : A) → R x (f x)) → (xs : List A) → Fewer R xs (update t f xs)
fewer_update {A = A} {R = R} same t f r xs = fewer_map (λ x. cond (t x) (f x) x) (λ x. go x (t x)) xs
  where
    go : (x : A) (b : Bool) → R x (cond b (f x) x)
    go x true = r x
    go x false = same x

pub fewer_then : {A : Type 0} {P Q R : A → A → Type 0} → ((x y z : A) → P x y → Q y z → R x z) → {xs ys zs : List A} → Fewer P xs ys → Fewer Q ys zs → Fewer R xs zs
fewer_then j done done = done
fewer_then j (dropped x h) k = dropped x (fewer_then j h k)
fewer_then j (kept x y r h) (dropped w k) = dropped x (fewer_then j h k)
fewer_then j (kept x y r h) (kept w z q k) = kept x z (j x w z r q) (fewer_then j h k)

-- ---- what fewer elements keep

pub length_fewer : {A : Type 0} {R : A → A → Type 0} {xs ys : List A} → Fewer R xs ys → length ys ≤ length xs
length_fewer done = omega arith
length_fewer (dropped x h) = omega (arith, length_fewer h)
length_fewer (kept x y r h) = omega (arith, length_fewer h)

pub all_fewer : {A : Type 0} {R : A → A → Type 0} (p q : A → Bool) → ((x y : A) → R x y → p x ≡ true → q y ≡ true) → {xs ys : List A} → Fewer R xs ys → list_all p xs ≡ true → list_all q ys ≡ true
all_fewer p q f done a = refl
all_fewer p q f (dropped {xs = xs} x h) a = all_fewer p q f h (and_parts (p x) (list_all p xs) a).1
all_fewer p q f (kept {xs = xs} {ys = ys} x y r h) a =
    let both = and_parts (p x) (list_all p xs) a in
    and_from (q y) (list_all q ys) (f x y r both.0) (all_fewer p q f h both.1)

pub count_fewer : {A : Type 0} {R : A → A → Type 0} (p : A → Bool) → ((x y : A) → R x y → p y ≡ true → p x ≡ true) → {xs ys : List A} → Fewer R xs ys → length (filter p ys) ≤ length (filter p xs)
count_fewer p f done = omega arith
count_fewer p f (dropped {xs = xs} {ys = ys} x h) = go (p x) (count_fewer p f h)
  where
    go : (b : Bool) → length (filter p ys) ≤ length (filter p xs) → length (filter p ys) ≤ length (cond b (x ∷ filter p xs) (filter p xs))
    go true l = omega (arith, l)
    go false l = l
count_fewer p f (kept {xs = xs} {ys = ys} x y r h) = go (p x) refl (p y) refl (count_fewer p f h)
  where
    go : (a : Bool) → p x ≡ a → (b : Bool) → p y ≡ b → length (filter p ys) ≤ length (filter p xs) → length (cond b (y ∷ filter p ys) (filter p ys)) ≤ length (cond a (x ∷ filter p xs) (filter p xs))
    go true d true e l = omega (arith, l)
    go true d false e l = omega (arith, l)
    go false d true e l = absurd (cc (f x y r e))
    go false d false e l = l

-- ---- rising numbers

pub rising_lower : (low lower high : ℕ) (ns : List ℕ) → lower ≤ low → are_rising low high ns ≡ true → are_rising lower high ns ≡ true
rising_lower low lower high [] le h = lt-ltb lower high (omega (arith, ltb-true low high h))
rising_lower low lower high (n ∷ ns) le h =
    let parts = and_parts (nat_lt low n) (are_rising n high ns) h in
    and_from (nat_lt lower n) (are_rising n high ns) (lt-ltb lower n (omega (arith, ltb-true low n parts.0))) parts.1

pub rising_higher : (low high higher : ℕ) (ns : List ℕ) → high ≤ higher → are_rising low high ns ≡ true → are_rising low higher ns ≡ true
rising_higher low high higher [] le h = lt-ltb low higher (omega (arith, ltb-true low high h))
rising_higher low high higher (n ∷ ns) le h =
    let parts = and_parts (nat_lt low n) (are_rising n high ns) h in
    and_from (nat_lt low n) (are_rising n higher ns) parts.0 (rising_higher n high higher ns le parts.1)

pub rising_fewer : {A : Type 0} {R : A → A → Type 0} (f : A → ℕ) → ((x y : A) → R x y → f y ≡ f x) → {xs ys : List A} → Fewer R xs ys → (low high : ℕ) → are_rising low high (map f xs) ≡ true → are_rising low high (map f ys) ≡ true
rising_fewer f e done low high a = a
rising_fewer f e (dropped {xs = xs} {ys = ys} x h) low high a =
    let parts = and_parts (nat_lt low (f x)) (are_rising (f x) high (map f xs)) a in
    rising_lower (f x) low high (map f ys) (omega (arith, ltb-true low (f x) parts.0)) (rising_fewer f e h (f x) high parts.1)
rising_fewer f e (kept {xs = xs} {ys = ys} x y r h) low high a =
    let parts = and_parts (nat_lt low (f x)) (are_rising (f x) high (map f xs)) a in
    rw (e x y r) (and_from (nat_lt low (f x)) (are_rising (f x) high (map f ys)) parts.0 (rising_fewer f e h (f x) high parts.1))

pub rising_push : {A : Type 0} (f : A → ℕ) (low high top : ℕ) (xs : List A) (x : A) → high ≤ f x → f x < top → are_rising low high (map f xs) ≡ true → are_rising low top (map f (xs ++ x ∷ [])) ≡ true
rising_push f low high top [] x le lt h = and_from (nat_lt low (f x)) (nat_lt (f x) top) (lt-ltb low (f x) (omega (arith, ltb-true low high h))) (lt-ltb (f x) top lt)
rising_push f low high top (y ∷ xs) x le lt h =
    let parts = and_parts (nat_lt low (f y)) (are_rising (f y) high (map f xs)) h in
    and_from (nat_lt low (f y)) (are_rising (f y) top (map f (xs ++ x ∷ []))) parts.0 (rising_push f (f y) high top xs x le lt parts.1)

pub rising_length : {A : Type 0} (f : A → ℕ) (low high : ℕ) (xs : List A) → are_rising low high (map f xs) ≡ true → low + length xs < high
rising_length f low high [] h = omega (arith, ltb-true low high h)
rising_length f low high (x ∷ xs) h =
    let parts = and_parts (nat_lt low (f x)) (are_rising (f x) high (map f xs)) h in
    omega (arith, ltb-true low (f x) parts.0, rising_length f (f x) high xs parts.1)

neq : (m n : ℕ) → (m ≡ n → ⊥) → (m == n) ≡ false
neq m n d = go (m == n) refl
  where
    go : (b : Bool) → (m == n) ≡ b → b ≡ false
    go true e = absurd (d (eqb-true m n e))
    go false e = refl

-- nothing has a number past the range
pub count_below : {A : Type 0} (f : A → ℕ) (low high n : ℕ) (xs : List A) → high ≤ n → are_rising low high (map f xs) ≡ true → length (filter (λ x. f x == n) xs) ≡ 0
count_below f low high n [] le h = refl
count_below f low high n (x ∷ xs) le h =
    let parts = and_parts (nat_lt low (f x)) (are_rising (f x) high (map f xs)) h in
    let lt = rising_length f (f x) high xs parts.1 in
    let off : (f x == n) ≡ false = neq (f x) n (λ e. omega (arith, lt)) in
    rw off (count_below f (f x) high n xs le parts.1)

-- one number is changed where it is found
pub fewer_at : {A : Type 0} {R : A → A → Type 0} → ((x : A) → R x x) → (num : A → ℕ) (f : A → A) (n low high : ℕ) (xs : List A) → are_rising low high (map num xs) ≡ true
    → ((y : A) → find (λ x. num x == n) xs ≡ Some y → R y (f y)) → Fewer R xs (update (λ x. num x == n) f xs)
fewer_at same num f n low high [] h r = done
fewer_at {A = A} {R = R} same num f n low high (x ∷ xs) h r =
    let parts = and_parts (nat_lt low (num x)) (are_rising (num x) high (map num xs)) h in
    go (num x == n) refl parts.1 (fewer_at same num f n (num x) high xs)
  where
    beyond : (low : ℕ) (ys : List A) → n ≤ low → are_rising low high (map num ys) ≡ true → Fewer R ys (update (λ x. num x == n) f ys)
    beyond low [] le a = done
    beyond low (y ∷ ys) le a =
        let parts = and_parts (nat_lt low (num y)) (are_rising (num y) high (map num ys)) a in
        let lt = ltb-true low (num y) parts.0 in
        let off : (num y == n) ≡ false = neq (num y) n (λ e. omega (arith, lt)) in
        let more : n ≤ num y = omega (arith, lt) in
        kept y (cond (num y == n) (f y) y) (rw off (same y)) (beyond (num y) ys more parts.1)

    go : (b : Bool) → (num x == n) ≡ b → are_rising (num x) high (map num xs) ≡ true
        → (are_rising (num x) high (map num xs) ≡ true → ((y : A) → find (λ x. num x == n) xs ≡ Some y → R y (f y)) → Fewer R xs (update (λ x. num x == n) f xs))
        → Fewer R (x ∷ xs) (cond b (f x) x ∷ update (λ x. num x == n) f xs)
    go true e a ih =
        let found : find (λ x. num x == n) (x ∷ xs) ≡ Some x = rw e refl in
        let le : n ≤ num x = omega (arith, eqb-true (num x) n e) in
        kept x (f x) (r x found) (beyond (num x) xs le a)
    go false e a ih =
        let later : (y : A) → find (λ x. num x == n) xs ≡ Some y → R y (f y) = λ y k. r y (rw e k) in
        kept x x (same x) (ih a later)

-- ---- one more element

pub all_push : {A : Type 0} (p : A → Bool) (xs : List A) (x : A) → list_all p xs ≡ true → p x ≡ true → list_all p (xs ++ x ∷ []) ≡ true
all_push p [] x h is = and_from (p x) true is refl
all_push p (y ∷ xs) x h is =
    let parts = and_parts (p y) (list_all p xs) h in
    and_from (p y) (list_all p (xs ++ x ∷ [])) parts.0 (all_push p xs x parts.1 is)

abbrev pub one_if : Bool → ℕ
one_if true = 1
one_if false = 0

pub count_push : {A : Type 0} (p : A → Bool) (xs : List A) (x : A) → length (filter p (xs ++ x ∷ [])) ≡ length (filter p xs) + one_if (p x)
count_push p [] x = elim (p x) as (λ b. length (cond b (x ∷ []) []) ≡ 0 + one_if b) [ true ↦ refl | false ↦ refl ]
count_push p (y ∷ xs) x =
    let rest = count_push p xs x in
    elim (p y) as (λ b. length (cond b (y ∷ filter p (xs ++ x ∷ [])) (filter p (xs ++ x ∷ []))) ≡ length (cond b (y ∷ filter p xs) (filter p xs)) + one_if (p x))
    [ true ↦ omega (arith, rest) | false ↦ rest ]

pub length_push : {A : Type 0} (xs : List A) (x : A) → length (xs ++ x ∷ []) ≡ length xs + 1
length_push xs x = omega (arith, length-append xs (x ∷ []))

pub count_all : {A : Type 0} (p : A → Bool) (xs : List A) → length (filter p xs) ≤ length xs
count_all p [] = omega arith
count_all p (x ∷ xs) =
    let rest = count_all p xs in
    elim (p x) as (λ b. length (cond b (x ∷ filter p xs) (filter p xs)) ≤ length (x ∷ xs)) [ true ↦ omega (arith, rest) | false ↦ omega (arith, rest) ]

pub all_filter : {A : Type 0} (p t : A → Bool) (xs : List A) → list_all p xs ≡ true → list_all (λ x. p x && t x) (filter t xs) ≡ true
all_filter p t [] h = refl
all_filter p t (x ∷ xs) h =
    let parts = and_parts (p x) (list_all p xs) h in
    go (t x) refl parts.0 (all_filter p t xs parts.1)
  where
    go : (b : Bool) → t x ≡ b → p x ≡ true → list_all (λ x. p x && t x) (filter t xs) ≡ true → list_all (λ x. p x && t x) (cond b (x ∷ filter t xs) (filter t xs)) ≡ true
    go true e a k = and_from (p x && t x) (list_all (λ x. p x && t x) (filter t xs)) (and_from (p x) (t x) a e) k
    go false e a k = k

-- an element that is found passes what all pass, and the search's test
pub found_all : {A : Type 0} (p t : A → Bool) (xs : List A) (y : A) → list_all p xs ≡ true → find t xs ≡ Some y → (p y ≡ true) × (t y ≡ true)
found_all p t [] y h e = absurd (cc)
found_all p t (x ∷ xs) y h e =
    let parts = and_parts (p x) (list_all p xs) h in
    go (t x) refl e parts.0 (found_all p t xs y parts.1)
  where
    go : (b : Bool) → t x ≡ b → cond b (Some x) (find t xs) ≡ Some y → p x ≡ true → (find t xs ≡ Some y → (p y ≡ true) × (t y ≡ true)) → (p y ≡ true) × (t y ≡ true)
    go true k q a ih = let w : x ≡ y = cc in let both : (p x ≡ true) × (t x ≡ true) = (a, k) in rw w at both
    go false k q a ih = ih q

-- what each element passes
pub all_weaker : {A : Type 0} (p q : A → Bool) → ((x : A) → p x ≡ true → q x ≡ true) → (xs : List A) → list_all p xs ≡ true → list_all q xs ≡ true
all_weaker p q f [] h = refl
all_weaker p q f (x ∷ xs) h = let both = and_parts (p x) (list_all p xs) h in and_from (q x) (list_all q xs) (f x both.0) (all_weaker p q f xs both.1)

-- ---- numbers of which none stands twice

pub any_parts : {A : Type 0} (t : A → Bool) (x : A) (xs : List A) → list_any t (x ∷ xs) ≡ false → (t x ≡ false) × (list_any t xs ≡ false)
any_parts t x xs e = or_parts (t x) (list_any t xs) e

absent_fewer : {A : Type 0} {R : A → A → Type 0} (f : A → ℕ) → ((x y : A) → R x y → f y ≡ f x) → {xs ys : List A} → Fewer R xs ys → (n : ℕ) → contains (map f xs) n ≡ false → contains (map f ys) n ≡ false
absent_fewer f e done n a = a
absent_fewer f e (dropped {xs = xs} x h) n a = absent_fewer f e h n (any_parts (λ m. m == n) (f x) (map f xs) a).1
absent_fewer f e (kept {xs = xs} x y r h) n a =
    let parts = any_parts (λ m. m == n) (f x) (map f xs) a in
    rw (e x y r, parts.0) (absent_fewer f e h n parts.1)

pub apart_fewer : {A : Type 0} {R : A → A → Type 0} (f : A → ℕ) → ((x y : A) → R x y → f y ≡ f x) → {xs ys : List A} → Fewer R xs ys → are_apart (map f xs) ≡ true → are_apart (map f ys) ≡ true
apart_fewer f e done a = a
apart_fewer f e (dropped {xs = xs} x h) a = apart_fewer f e h (and_parts (not (contains (map f xs) (f x))) (are_apart (map f xs)) a).1
apart_fewer f e (kept {xs = xs} {ys = ys} x y r h) a =
    let parts = and_parts (not (contains (map f xs) (f x))) (are_apart (map f xs)) a in
    let off = absent_fewer f e h (f x) (not-true (contains (map f xs) (f x)) parts.0) in
    rw (e x y r, off) (apart_fewer f e h parts.1)

absent_push : (m n : ℕ) (ns : List ℕ) → contains ns m ≡ false → (n == m) ≡ false → contains (ns ++ n ∷ []) m ≡ false
absent_push m n [] a d = rw d refl
absent_push m n (k ∷ ns) a d =
    let parts = any_parts (λ i. i == m) k ns a in
    rw parts.0 (absent_push m n ns parts.1 d)

flip : (m n : ℕ) → (m == n) ≡ false → (n == m) ≡ false
flip m n e = grind (arith, nat_tests)

numbers_apart : (ns : List ℕ) (n : ℕ) → are_apart ns ≡ true → contains ns n ≡ false → are_apart (ns ++ n ∷ []) ≡ true
numbers_apart [] n h a = refl
numbers_apart (m ∷ ns) n h a =
    let both = and_parts (not (contains ns m)) (are_apart ns) h in
    let parts = any_parts (λ i. i == n) m ns a in
    let off : contains (ns ++ n ∷ []) m ≡ false = absent_push m n ns (not-true (contains ns m) both.0) (flip m n parts.0) in
    rw off (numbers_apart ns n both.1 parts.1)

none_there : {A : Type 0} (f : A → ℕ) (n : ℕ) (xs : List A) → is_some (find (λ x. f x == n) xs) ≡ false → contains (map f xs) n ≡ false
none_there f n [] e = refl
none_there {A = A} f n (x ∷ xs) e = go (f x == n) e (none_there f n xs)
  where
    go : (b : Bool) → is_some (cond b (Some x) (find (λ x. f x == n) xs)) ≡ false
        → (is_some (find (λ x. f x == n) xs) ≡ false → contains (map f xs) n ≡ false)
        → (b || contains (map f xs) n) ≡ false
    go true q ih = absurd (cc)
    go false q ih = ih q

-- one more, of a number that isn't found
pub apart_push : {A : Type 0} (f : A → ℕ) (xs : List A) (x : A) → are_apart (map f xs) ≡ true → is_some (find (λ y. f y == f x) xs) ≡ false → are_apart (map f (xs ++ x ∷ [])) ≡ true
apart_push f xs x h e = ap are_apart (map-append f xs (x ∷ [])) ∙ numbers_apart (map f xs) (f x) h (none_there f (f x) xs e)
