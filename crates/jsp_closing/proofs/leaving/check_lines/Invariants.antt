use Rattle.std.proofs.Common.{◌≡◌, ◌≤◌, ℕ, ◌+◌, length}
use Rattle.std.specs.Prelude.{slice_get}
use Rattle.jsp_closing.specs.Leaving.{MayAsk}
use Rattle.jsp_closing.proofs.Places.{EachBelow}
use Rattle.jsp_closing.proofs.leaving.check_lines.Given as goal

abbrev pub invariant-loop-i : goal.invariant-loop-i
invariant-loop-i l =
    (length l.lines.items ≡ length l.reports)
    × ((j : ℕ) → l.i ≤ j → slice_get l.lines.items j ≡ slice_get l.initial.lines.items j)
    × EachBelow (λ j report. MayAsk (j + 1) l.steps l.state report) l.reports l.i
