-- What is owed, and what runs touch.
use Rattle.std.proofs.Common.{◌≡◌, refl, ap, sym, ◌∙◌, ℕ, List, [], ◌∷◌, ◌++◌, Bool, true, append_assoc}
use Rattle.std.specs.List.{list_all}
use Rattle.std.proofs.lemmas.Bool.{and_parts, and_from}
use Rattle.jsp_model.specs.declared.state.State.{State}
use Rattle.jsp_model.specs.declared.step.Step.{Step}
use Rattle.jsp_model.specs.Lookup.{contains}
use Rattle.jsp_model.specs.Touches.{touches}
use Rattle.jsp_model.specs.Steps.{next}
use Rattle.jsp_model.specs.Runs.{state_after}
use Rattle.jsp_model.specs.House.{Covers, touched}
use Rattle.jsp_laws.proofs.Lists.{each_numbers}

-- ---- what is owed

pub all_both : (t : ℕ → Bool) (xs ys : List ℕ) → list_all t xs ≡ true → list_all t ys ≡ true → list_all t (xs ++ ys) ≡ true
all_both t [] ys h k = k
all_both t (x ∷ xs) ys h k = let parts = and_parts (t x) (list_all t xs) h in and_from (t x) (list_all t (xs ++ ys)) parts.0 (all_both t xs ys parts.1 k)

pub all_parts : (t : ℕ → Bool) (xs ys : List ℕ) → list_all t (xs ++ ys) ≡ true → (list_all t xs ≡ true) × (list_all t ys ≡ true)
all_parts t [] ys h = (refl, h)
all_parts t (x ∷ xs) ys h =
    let parts = and_parts (t x) (list_all t (xs ++ ys)) h in
    let rest = all_parts t xs ys parts.1 in
    (and_from (t x) (list_all t xs) parts.0 rest.0, rest.1)

-- what holds of all that is owed holds of what that covers
pub covered : (t : ℕ → Bool) (owed spaces : List ℕ) → Covers owed spaces → list_all t owed ≡ true → list_all t spaces ≡ true
covered t owed [] c h = refl
covered t owed (p ∷ spaces) c h =
    let parts = and_parts (contains owed p) (list_all (contains owed) spaces) c in
    and_from (t p) (list_all t spaces) (each_numbers t owed p h parts.0) (covered t owed spaces parts.1 h)

pub covers_more : (owed more spaces : List ℕ) → Covers more owed → Covers owed spaces → Covers more spaces
covers_more owed more spaces c d = covered (contains more) owed spaces d c

-- ---- what a run touches

pub touched-append : (st : State) (xs ys : List Step) → touched st (xs ++ ys) ≡ touched st xs ++ touched (state_after st xs) ys
touched-append st [] ys = refl
touched-append st (x ∷ xs) ys = ap (λ w. touches st x ++ w) (touched-append (next st x) xs ys) ∙ sym (append_assoc (touches st x) (touched (next st x) xs) (touched (state_after (next st x) xs) ys))
