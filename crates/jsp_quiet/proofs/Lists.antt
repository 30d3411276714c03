-- Lists: what filtering sees of a list that changed elsewhere, and what passes nowhere or everywhere.
use Rattle.std.proofs.Common.{◌≡◌, refl, sym, ap, ◌∙◌, List, [], ◌∷◌, ◌++◌, map, Bool, true, false, cond, ◌||◌, ◌&&◌, filter, flat_map, true≢false, append-nil, inl, inr, None}
use Rattle.std.specs.Prelude.{find}
use Rattle.std.specs.List.{list_any, list_all}
use Rattle.std.proofs.lemmas.Bool.{and_parts, and_from, or_parts}
use Rattle.std.proofs.lemmas.List.Elements.{filter-append}
use Rattle.jsp_model.specs.Lookup.{update}
use Rattle.jsp_laws.proofs.Lists.{Each, Has}

-- ---- a test that passes only where another does

pub filter_within : {A : Type 0} (q t : A → Bool) → ((x : A) → q x ≡ false → t x ≡ false) → (xs : List A) → filter t (filter q xs) ≡ filter t xs
filter_within q t h [] = refl
filter_within q t h (x ∷ xs) = go (q x) refl (filter_within q t h xs)
  where
    go : (b : Bool) → q x ≡ b → filter t (filter q xs) ≡ filter t xs → filter t (cond b (x ∷ filter q xs) (filter q xs)) ≡ cond (t x) (x ∷ filter t xs) (filter t xs)
    go true e ih = ap (λ ys. cond (t x) (x ∷ ys) ys) ih
    go false e ih = rw (h x e) ih

pub any_within : {A : Type 0} (q t : A → Bool) → ((x : A) → q x ≡ false → t x ≡ false) → (xs : List A) → list_any t (filter q xs) ≡ list_any t xs
any_within q t h [] = refl
any_within q t h (x ∷ xs) = go (q x) refl (any_within q t h xs)
  where
    go : (b : Bool) → q x ≡ b → list_any t (filter q xs) ≡ list_any t xs → list_any t (cond b (x ∷ filter q xs) (filter q xs)) ≡ (t x || list_any t xs)
    go true e ih = ap (λ y. t x || y) ih
    go false e ih = rw (h x e) ih

-- ---- tests that agree

pub filter_alike : {A : Type 0} (t u : A → Bool) (xs : List A) → Each (λ x. t x ≡ u x) xs → filter t xs ≡ filter u xs
filter_alike t u [] h = refl
filter_alike t u (x ∷ xs) (h, hs) = rw h (ap (λ ys. cond (u x) (x ∷ ys) ys) (filter_alike t u xs hs))

pub any_alike : {A : Type 0} (t u : A → Bool) (xs : List A) → Each (λ x. t x ≡ u x) xs → list_any t xs ≡ list_any u xs
any_alike t u [] h = refl
any_alike t u (x ∷ xs) (h, hs) = rw h (ap (λ y. u x || y) (any_alike t u xs hs))

pub all_alike : {A : Type 0} (t u : A → Bool) → ((x : A) → t x ≡ u x) → (xs : List A) → list_all t xs ≡ list_all u xs
all_alike t u h [] = refl
all_alike t u h (x ∷ xs) = rw (h x) (ap (λ y. u x && y) (all_alike t u h xs))

-- ---- what a filter sees stays

pub kept_alike : {A : Type 0} (q t : A → Bool) (xs : List A) → Each (λ x. q x ≡ true → t x ≡ true) xs → filter q (filter t xs) ≡ filter q xs
kept_alike q t [] h = refl
kept_alike {A = A} q t (x ∷ xs) (h, hs) = go (t x) refl (q x) refl (kept_alike q t xs hs)
  where
    go : (b : Bool) → t x ≡ b → (d : Bool) → q x ≡ d → filter q (filter t xs) ≡ filter q xs → filter q (cond b (x ∷ filter t xs) (filter t xs)) ≡ cond d (x ∷ filter q xs) (filter q xs)
    go true e true k ih = rw k (ap (λ ys. x ∷ ys) ih)
    go true e false k ih = rw k ih
    go false e true k ih = absurd (true≢false (sym (h k) ∙ e))
    go false e false k ih = ih

pub mapped_alike : {A : Type 0} (q : A → Bool) (f : A → A) → ((x : A) → q (f x) ≡ q x) → (xs : List A) → Each (λ x. q x ≡ true → f x ≡ x) xs → filter q (map f xs) ≡ filter q xs
mapped_alike q f s [] h = refl
mapped_alike {A = A} q f s (x ∷ xs) (h, hs) = go (q x) refl (mapped_alike q f s xs hs)
  where
    go : (d : Bool) → q x ≡ d → filter q (map f xs) ≡ filter q xs → filter q (f x ∷ map f xs) ≡ cond d (x ∷ filter q xs) (filter q xs)
    go true k ih = rw (s x, k) (rw (h k) (ap (λ ys. x ∷ ys) ih))
    go false k ih = rw (s x, k) ih

pub updated_alike : {A : Type 0} (q t : A → Bool) (f : A → A) → ((x : A) → q (f x) ≡ q x) → (xs : List A) → Each (λ x. q x ≡ true → t x ≡ false) xs → filter q (update t f xs) ≡ filter q xs
updated_alike q t f s [] h = refl
updated_alike {A = A} q t f s (x ∷ xs) (h, hs) = go (t x) refl (q x) refl (updated_alike q t f s xs hs)
  where
    go : (b : Bool) → t x ≡ b → (d : Bool) → q x ≡ d → filter q (update t f xs) ≡ filter q xs → filter q (cond b (f x) x ∷ update t f xs) ≡ cond d (x ∷ filter q xs) (filter q xs)
    go true e true k ih = absurd (true≢false (sym e ∙ h k))
    go true e false k ih = rw (s x, k) ih
    go false e true k ih = rw k (ap (λ ys. x ∷ ys) ih)
    go false e false k ih = rw k ih

pub flat_alike : {A : Type 0} (q : A → Bool) (f : A → List A) (xs : List A) → Each (λ x. filter q (f x) ≡ filter q (x ∷ [])) xs → filter q (flat_map f xs) ≡ filter q xs
flat_alike q f [] h = refl
flat_alike {A = A} q f (x ∷ xs) (h, hs) = filter-append q (f x) (flat_map f xs) ∙ rw (h, flat_alike q f xs hs) (go (q x))
  where
    go : (d : Bool) → cond d (x ∷ []) [] ++ filter q xs ≡ cond d (x ∷ filter q xs) (filter q xs)
    go true = refl
    go false = refl

filter_none : {A : Type 0} (q : A → Bool) (xs : List A) → Each (λ x. q x ≡ false) xs → filter q xs ≡ []
filter_none q [] h = refl
filter_none q (x ∷ xs) (h, hs) = rw h (filter_none q xs hs)

pub added_alike : {A : Type 0} (q : A → Bool) (xs ys : List A) → Each (λ y. q y ≡ false) ys → filter q (xs ++ ys) ≡ filter q xs
added_alike q xs ys h = filter-append q xs ys ∙ rw (filter_none q ys h) (append-nil (filter q xs))

-- ---- what all pass

pub all_updated : {A : Type 0} (f t : A → Bool) (g : A → A) → ((x : A) → t x ≡ true → f x ≡ true → f (g x) ≡ true) → (xs : List A) → list_all f xs ≡ true → list_all f (update t g xs) ≡ true
all_updated f t g s [] h = refl
all_updated {A = A} f t g s (x ∷ xs) h =
    let parts : (f x ≡ true) × (list_all f xs ≡ true) = and_parts (f x) (list_all f xs) h in
    go (t x) refl parts.0 (all_updated f t g s xs parts.1)
  where
    go : (b : Bool) → t x ≡ b → f x ≡ true → list_all f (update t g xs) ≡ true → list_all f (cond b (g x) x ∷ update t g xs) ≡ true
    go true e k ih = and_from (f (g x)) (list_all f (update t g xs)) (s x e k) ih
    go false e k ih = and_from (f x) (list_all f (update t g xs)) k ih

pub all_pushed : {A : Type 0} (f : A → Bool) (xs : List A) (y : A) → f y ≡ true → list_all f xs ≡ true → list_all f (xs ++ y ∷ []) ≡ true
all_pushed f [] y k h = rw k refl
all_pushed f (x ∷ xs) y k h =
    let parts : (f x ≡ true) × (list_all f xs ≡ true) = and_parts (f x) (list_all f xs) h in
    and_from (f x) (list_all f (xs ++ y ∷ [])) parts.0 (all_pushed f xs y k parts.1)

-- ---- each of two lists

pub each_parts : {A : Type 0} (P : A → Type 0) (xs ys : List A) → Each P (xs ++ ys) → Each P xs × Each P ys
each_parts P [] ys h = (tt, h)
each_parts P (x ∷ xs) ys (h, hs) = let parts = each_parts P xs ys hs in ((h, parts.0), parts.1)

-- ---- what is found, and what all are

-- what isn't found passes nowhere
pub find_none : {A : Type 0} (t : A → Bool) (xs : List A) (y : A) → find t xs ≡ None → Has xs y → t y ≡ false
find_none t [] y e h = absurd h
find_none {A = A} t (x ∷ xs) y e h = go (t x) refl e h (find_none t xs y)
  where
    go : (b : Bool) → t x ≡ b → find t (x ∷ xs) ≡ None → Has (x ∷ xs) y → (find t xs ≡ None → Has xs y → t y ≡ false) → t y ≡ false
    go true k q h ih = absurd (cc (rw k at q))
    go false k q (inl s) ih = rw s at k
    go false k q (inr s) ih = ih (rw k at q) s

pub all_has : {A : Type 0} (t : A → Bool) (xs : List A) → ((y : A) → Has xs y → t y ≡ true) → list_all t xs ≡ true
all_has t [] h = refl
all_has t (x ∷ xs) h = and_from (t x) (list_all t xs) (h x (inl refl)) (all_has t xs (λ y k. h y (inr k)))

pub any_has : {A : Type 0} (t : A → Bool) (xs : List A) (x : A) → Has xs x → t x ≡ true → list_any t xs ≡ true
any_has t [] x h e = absurd h
any_has {A = A} t (y ∷ ys) x h e = go (t y) refl h (λ s. any_has t ys x s e)
  where
    go : (b : Bool) → t y ≡ b → Has (y ∷ ys) x → (Has ys x → list_any t ys ≡ true) → (b || list_any t ys) ≡ true
    go true k h rest = refl
    go false k (inl s) rest = absurd (true≢false (sym (ap t s ∙ e) ∙ k))
    go false k (inr s) rest = rest s

pub each_not : {A : Type 0} (t : A → Bool) (xs : List A) → list_any t xs ≡ false → Each (λ x. t x ≡ false) xs
each_not t [] h = tt
each_not t (x ∷ xs) h = let parts = or_parts (t x) (list_any t xs) h in (parts.0, each_not t xs parts.1)
