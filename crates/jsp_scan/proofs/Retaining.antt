-- The rows at the end of a transaction, in one pass.
use Rattle.std.proofs.Common.{◌≡◌, Bool, true, false, cond, List, [], ◌∷◌, Option, Some, None, refl, ap, sym, subst, ◌∙◌}
use Rattle.std.specs.Prelude.{map, filter}
use Rattle.std.specs.List.{retain_mut, filter_map, cons_option}
use Rattle.std.specs.List.Retain.{RetainsInTurn}

kept_at : {X : Type 0} (b : Bool) (y : X) (old new : List X) (f g : X → X) (x : X) (kept : List X) → y ≡ f (g x) → new ≡ map f (map g kept) → cond b (y ∷ new) new ≡ map f (map g (cond b (x ∷ kept) kept))
kept_at true y old new f g x kept is rest = rw (is, rest) refl
kept_at false y old new f g x kept is rest = rest

-- those that stay are changed twice
kept : {X : Type 0} (test : X → Bool) (f g : X → X) (xs : List X) → retain_mut test (λ x. f (g x)) xs ≡ map f (map g (filter test xs))
kept test f g [] = refl
kept test f g (x ∷ xs) = kept_at (test x) (f (g x)) xs _ f g x (filter test xs) refl (kept test f g xs)

retained : {S X : Type 0} (R : S → X → Bool → S → X → Type 0) (test : X → Bool) (change : X → X) (s : S) → ((x : X) (b : Bool) (t : S) (y : X) → R s x b t y → (b ≡ test x) × (y ≡ change x) × (t ≡ s)) → (xs ys : List X) → RetainsInTurn R s xs ys → ys ≡ retain_mut test change xs
retained R test change s f [] ys h = h
retained R test change s f (x ∷ xs) ys h =
    let said = f x h.0 h.1 h.2 h.3 in
    let rest = retained R test change s f xs h.4 (subst (λ t. RetainsInTurn R t xs h.4) said.2 h.5) in
    h.6 ∙ (λ i. cond (said.0 i) (said.1 i ∷ rest i) (rest i))

-- what `retain_mut` leaves, where its closure stays the same
pub kept_and_changed : {S X : Type 0} (R : S → X → Bool → S → X → Type 0) (test : X → Bool) (f g : X → X) (s : S) → ((x : X) (b : Bool) (t : S) (y : X) → R s x b t y → (b ≡ test x) × (y ≡ f (g x)) × (t ≡ s)) → (xs ys : List X) → RetainsInTurn R s xs ys → ys ≡ map f (map g (filter test xs))
kept_and_changed R test f g s h xs ys r = retained R test (λ x. f (g x)) s h xs ys r ∙ kept test f g xs

-- the same, where each item's fate is told whole
pub fated : {S X : Type 0} (R : S → X → Bool → S → X → Type 0) (f : X → Option X) (s : S) → ((x : X) (b : Bool) (t : S) (y : X) → R s x b t y → (f x ≡ cond b (Some y) None) × (t ≡ s)) → (xs ys : List X) → RetainsInTurn R s xs ys → ys ≡ filter_map f xs
fated R f s told [] ys h = h
fated {X = X} R f s told (x ∷ xs) ys h =
    let said = told x h.0 h.1 h.2 h.3 in
    let rest = fated R f s told xs h.4 (subst (λ t. RetainsInTurn R t xs h.4) said.1 h.5) in
    h.6 ∙ (at h.0 h.2 h.4 rest ∙ ap (λ o. cons_option o (filter_map f xs)) (sym said.0)) where
      at : (b : Bool) (y : X) (left : List X) → left ≡ filter_map f xs → cond b (y ∷ left) left ≡ cons_option (cond b (Some y) None) (filter_map f xs)
      at true y left e = ap (λ w. y ∷ w) e
      at false y left e = e
