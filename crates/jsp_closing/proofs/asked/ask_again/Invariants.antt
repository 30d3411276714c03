use Rattle.std.proofs.Common.{◌≡◌, ◌++◌, List, map}
use Rattle.std.specs.Vec.Iter.{into_iter_items}
use Rattle.jsp_model.specs.declared.step.Step.{Step}
use Rattle.jsp_closing.specs.Asking.{CanBe, HaveGiven, unasked_in}
use Rattle.jsp_closing.proofs.asked.ask_again.Given as goal

abbrev pub invariant-loop-step : goal.invariant-loop-step
invariant-loop-step l =
    HaveGiven l.reports l.lines.items l.asked.items
    × (map (unasked_in l.reports) l.asked.items ≡ map (unasked_in l.reports) l.yielded)
    × ((history : List Step) → CanBe l.reports history (into_iter_items l.initial.step-iterator) → (left : List Step) × (history ≡ l.asked.items ++ left))
