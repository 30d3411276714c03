-- What the maps of bytes say of a history.
use Rattle.std.proofs.Common.{◌≡◌, ℕ, ◌+◌, Bool, true, List, [], ◌∷◌, None, refl, ap, sym, ◌∙◌}
use Rattle.std.specs.Prelude.{nat_eq}
use Rattle.std.specs.Bool.{Decides}
use Rattle.std.specs.Option.{option_map}
use Rattle.std.specs.Cmp.{nat_eq_equiv}
use Rattle.std.specs.Cmp.Lexicographic.{pointwise}
use Rattle.std.specs.HashMap.{HashMap, hash_map_eq}
use Rattle.std.proofs.lemmas.Bool.{and_parts}
use Rattle.std.proofs.lemmas.Bool.Decides.{Decides-eqb}
use Rattle.std.proofs.lemmas.Slice.Eq.{slice_eq-Decides}
use Rattle.std.proofs.lemmas.Map.Lookups.{hash_map_eq-Decides}
use Rattle.jsp_model.specs.declared.state.State.{State}
use Rattle.jsp_model.specs.declared.step.Step.{Step}
use Rattle.jsp_model.specs.Steps.{is_legal, next}
use Rattle.jsp_model.specs.Runs.{is_run, first_illegal}
use Rattle.jsp_script.specs.Audit.{kept, Has}

-- a run has no illegal step
pub no_illegal_step : (st : State) (steps : List Step) → is_run st steps ≡ true → first_illegal st steps ≡ None
no_illegal_step st [] h = refl
no_illegal_step st (step ∷ steps) h =
    let parts = and_parts (is_legal st step) (is_run (next st step) steps) h in
    rw parts.0 (ap (option_map (λ n. n + 1)) (no_illegal_step (next st step) steps parts.1))

kept_apart : (xs ys : List ℕ) → kept xs ≡ kept ys → xs ≡ ys
kept_apart [] [] h = refl
kept_apart [] (y ∷ ys) h = cc (h)
kept_apart (x ∷ xs) [] h = cc (h)
kept_apart (x ∷ xs) (y ∷ ys) h = cc (h)

module _ {S : Type 0} where
  -- whether the maps are equal is whether the bytes of each session are
  pub same_bytes : (sent said : HashMap ℕ (List ℕ) S) (f g : ℕ → List ℕ) (r : Bool) → r ≡ hash_map_eq nat_eq (pointwise nat_eq) sent said → Has sent f → Has said g
      → Decides r ((s : ℕ) → f s ≡ g s)
  same_bytes sent said f g r is has_f has_g =
      let decides = hash_map_eq-Decides nat_eq_equiv (λ v w. slice_eq-Decides Decides-eqb v w (pointwise nat_eq v w) refl) sent said r is in
      (λ e s. kept_apart (f s) (g s) (sym (has_f s) ∙ decides.0 e s ∙ has_g s), λ each. decides.1 (λ s. has_f s ∙ ap kept (each s) ∙ sym (has_g s)))
