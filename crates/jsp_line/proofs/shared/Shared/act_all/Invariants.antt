use Rattle.std.proofs.Common.{◌≡◌, ℕ, List}
use Rattle.jsp_model.specs.declared.step.Step.{Step}
use Rattle.jsp_drive.specs.Giving.{Gave}
use Rattle.jsp_line.specs.Turns.{ActsMore}
use Rattle.jsp_line.proofs.shared.Shared.act_all.Given as goal

abbrev pub invariant-loop : goal.invariant-loop
invariant-loop g l =
    (l.seat.session ≡ l.initial.seat.session)
    × ((stream : List ℕ) (asked : List Step)
    → Gave l.initial.seat.session stream asked l.initial.line
    → ActsMore l.initial.seat.session stream asked l.line l.initial.seat.count l.seat.count)
