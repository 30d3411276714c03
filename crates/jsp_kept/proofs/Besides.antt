-- Calls beside what is owed, in one era and behind the beginning of one.
use Rattle.std.proofs.Common.{◌≡◌, ℕ, List, [], Result, Ok, Err, refl, sym, subst}
use Rattle.std.specs.Prelude.{IfOk}
use Rattle.std.proofs.lemmas.List.{append-nil}
use Rattle.jsp_model.specs.declared.state.State.{State}
use Rattle.jsp_model.specs.declared.step.Step.{Step}
use Rattle.jsp_model.specs.declared.house.Input.{Input}
use Rattle.jsp_model.specs.declared.house.Settled.{Settled}
use Rattle.jsp_model.specs.declared.house.Stopped.{Stopped}
use Rattle.jsp_model.specs.declared.house.Why.{Why}
use Rattle.jsp_model.specs.House.{AnswersTurn, AnswersOf, Covers, Leaves, acted, own_of, touched}
use Rattle.jsp_beside.specs.Beside.{ActsBeside, GoesBeside, LeavesBeside}
use Rattle.jsp_kept.specs.History.{History}
use Rattle.jsp_kept.specs.Calls.{KeepsEra}
use Rattle.jsp_kept.specs.Eras.{Grows}
use Rattle.jsp_kept.specs.Parts.{PerformsBeside, PreparesBeside}
use Rattle.jsp_kept.proofs.Keeping.{CountsUp}
use Rattle.jsp_kept.proofs.Growing.{grows_in_era, grows_then}

-- ---- in one era

pub prepares_beside : (h k : History) (r : Result Unit Why) → KeepsEra h k → (g : GoesBeside h.state k.state h.debt k.debt h.steps k.steps r) → CountsUp h k (own_of g.goes.steps) → PreparesBeside h k r
prepares_beside h k r era g counts = record {
  steps = g.goes.steps;
  grows = grows_in_era h k g.goes.steps era g.goes.makes counts;
  own_steps = g.goes.own;
  more = g.more;
  covers = subst (Covers g.more) (append-nil (touched h.state g.goes.steps)) g.goes.covers;
  leaves = g.leaves;
}

pub performs_beside : (h k : History) (x : Input) (r : Result Unit Stopped) → KeepsEra h k → (a : ActsBeside h.state k.state h.debt k.debt h.steps k.steps x r) → CountsUp h k (own_of a.acts.steps) → PerformsBeside h k (acted h.state x r) r
performs_beside h k x r era a counts = record {
  steps = a.acts.steps;
  grows = grows_in_era h k a.acts.steps era a.acts.makes counts;
  own_steps = a.acts.own;
  more = a.more;
  leaves = subst (λ w. Leaves r k.state w a.more) (append-nil (touched h.state a.acts.steps)) a.acts.leaves;
  debt = a.owes;
}

-- ---- where an era was begun before

pub prepares_behind : (h k l : History) (r : Result Unit Why) → Grows h k [] → k.state ≡ h.state → k.debt ≡ h.debt → PreparesBeside k l r → PreparesBeside h l r
prepares_behind h k l r g state debt p = record {
  steps = p.steps;
  grows = grows_then h k l [] p.steps g p.grows;
  own_steps = p.own_steps;
  more = p.more;
  covers = subst (λ (w : State). Covers p.more (touched w p.steps)) state p.covers;
  leaves = subst (λ w. LeavesBeside r l.state w p.more l.debt) debt p.leaves;
}

pub performs_behind : (h k l : History) (x : Input) (r : Result Unit Stopped) → Grows h k [] → k.state ≡ h.state → k.debt ≡ h.debt → PerformsBeside k l (acted k.state x r) r → PerformsBeside h l (acted h.state x r) r
performs_behind h k l x r g state debt p = record {
  steps = p.steps;
  grows = grows_then h k l [] p.steps g p.grows;
  own_steps = subst (λ (w : State). own_of p.steps ≡ acted w x r) state p.own_steps;
  more = p.more;
  leaves = subst (λ (w : State). Leaves r l.state (touched w p.steps) p.more) state p.leaves;
  debt = rw (sym debt) p.debt;
}

-- ---- a turn

pub turn_answers : (old new : State) (left : List ℕ) (r : Result Settled Stopped) → AnswersOf old new left r → IfOk r (AnswersTurn old new)
turn_answers old new left (Ok s) h = h
turn_answers old new left (Err e) h = tt
