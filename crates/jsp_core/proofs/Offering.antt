-- Numbers on offer.
use Rattle.std.proofs.Common.{◌≡◌, refl, ap, ◌∙◌, ℕ, List, [], ◌∷◌, Bool, true, false, not, ◌||◌, cond, filter, Option, Some, None}
use Rattle.std.specs.Prelude.{option_map}
use Rattle.std.specs.List.{list_all}
use Rattle.jsp_model.specs.declared.state.State.{State}
use Rattle.jsp_model.specs.Sight.{is_if, is_available, has_conflict}
use Rattle.jsp_core.specs.Offering.{are_offered, are_stirred}

pub kept_view : (any : Bool) (t : ℕ → Bool) (old new : List ℕ) (o : Option (List ℕ)) → new ≡ filter t old → cond any None (Some old) ≡ o → cond any None (Some new) ≡ option_map (filter t) o
kept_view true t old new o e v = ap (option_map (filter t)) v
kept_view false t old new o e v = ap Some e ∙ ap (option_map (filter t)) v

all_true : {A : Type 0} (t : A → Bool) → ((x : A) → t x ≡ true) → (xs : List A) → list_all t xs ≡ true
all_true t h [] = refl
all_true t h (x ∷ xs) = rw (h x) (all_true t h xs)

or_true : (b : Bool) → (b || true) ≡ true
or_true true = refl
or_true false = refl

-- any row is on offer, any request stirred
pub any_offered : (st : State) → are_offered None st ≡ true
any_offered st = all_true _ (λ b. all_true _ (λ r. or_true (not (is_available st b r))) st.rows) st.blocked

pub any_stirred : (st : State) → are_stirred None st ≡ true
any_stirred st = all_true _ (λ b. either (not (is_if b.form)) (has_conflict st b)) st.blocked
  where
    either : (i c : Bool) → (i || (c || true)) ≡ true
    either true c = refl
    either false c = or_true c
