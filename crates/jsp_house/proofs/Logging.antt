-- The log keeps its room, and stays within its bound.
use Rattle.std.proofs.Common.{◌≡◌, ap, sym, ◌∙◌, subst, ℕ, ◌+◌, ◌<◌, ◌≤◌, false, true≢false, length, Option, Some, None, arith, ◌-◌}
use Rattle.std.specs.Prelude.{Vec, vec_len, vec_capacity}
use Rattle.std.specs.declared.alloc.Global.{Global}
use Rattle.std.proofs.lemmas.Bool.{leb-false}
use Rattle.jsp_model.specs.declared.state.State.{State}
use Rattle.jsp_model.specs.declared.step.Step.{Step}
use Rattle.jsp_model.specs.Steps.{next}
use Rattle.jsp_model.specs.House.{IsWithin, is_full}
use Rattle.jsp_model.proofs.Sessions.{opens_one}
use Rattle.jsp_house.specs.Making.{KeepsLog}

within_more : (bound : Option ℕ) (n : ℕ) → is_full bound n ≡ false → IsWithin bound (n + 1)
within_more None n h = tt
within_more (Some most) n h = let low : n < most = leb-false most n h in omega (arith, low)

-- a step was entered
pub keeps_step : (old new : State) (x : Step) (bound : Option ℕ) (before after : Vec Step Global) → new ≡ next old x → is_full bound (vec_len before) ≡ false → vec_len after ≡ vec_len before + 1
    → length old.sessions < vec_capacity after - vec_len after → KeepsLog old new bound before after
keeps_step old new x bound before after made low one room = record {
  room = λ h. omega (arith, ap (λ (s : State). length s.sessions) made, opens_one old x, room);
  within = λ h. subst (IsWithin bound) (sym one) (within_more bound (vec_len before) low);
  full = λ h. absurd (true≢false (sym h ∙ low));
}

-- nothing was entered
pub keeps_none : (old new : State) (bound : Option ℕ) (before after : Vec Step Global) → new ≡ old → vec_len after ≡ vec_len before → vec_capacity before - vec_len before ≤ vec_capacity after - vec_len after
    → KeepsLog old new bound before after
keeps_none old new bound before after same none more = record {
  room = λ h. omega (arith, ap (λ (s : State). length s.sessions) same, h, more);
  within = λ h. subst (IsWithin bound) (sym none) h;
  full = λ h. none;
}

pub keeps_both : (a b c : State) (bound : Option ℕ) (before between after : Vec Step Global) → KeepsLog a b bound before between → KeepsLog b c bound between after → KeepsLog a c bound before after
keeps_both a b c bound before between after h k = record { room = λ e. k.room (h.room e); within = λ e. k.within (h.within e); full = λ e. k.full (ap (is_full bound) (h.full e) ∙ e) ∙ h.full e }
