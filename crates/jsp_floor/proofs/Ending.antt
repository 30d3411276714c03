-- How a history ends.
use Rattle.std.proofs.Common.{◌≡◌, ℕ, zero, suc, List, ◌∙◌, refl, sym, subst}
use Rattle.jsp_model.specs.declared.step.Step.{Step}
use Rattle.jsp_drive.specs.declared.era.Era.{Era}
use Rattle.jsp_kept.specs.History.{History, IsKept}
use Rattle.jsp_kept.specs.Eras.{Grows}
use Rattle.jsp_floor.specs.Ending.{Settles}
use Rattle.jsp_closing.specs.Closing.{IsAtRest, RestsAfter}

-- a history at rest is taken apart
pub rests_after : (spaces : List (List ℕ)) (era : Era) (h : History)
    → h.spaces ≡ spaces → era.steps.items ≡ h.steps → era.is_sealed ≡ h.is_sealed → IsKept h → IsAtRest h.state → RestsAfter spaces era
rests_after spaces era h same steps sealed kept rest = record {
  earlier = kept.earlier;
  first = λ none. kept.first (sym sealed ∙ none);
  run = rw (steps, ← same) kept.run;
  rest = rw (steps, ← same) (subst IsAtRest kept.state rest);
}

pub settles_none : (h : History) → Settles h h
settles_none h = record { calls = zero; goes = refl }

pub settles_then : (h k l : History) (more : List Step) → Settles h k → Grows k l more → Settles h l
settles_then h k l more s grows = record { calls = suc s.calls; goes = (k, s.goes, record { made = more; grows = grows }) }
