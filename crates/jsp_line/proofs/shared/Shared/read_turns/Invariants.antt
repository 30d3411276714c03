use Rattle.std.proofs.Common.{◌≡◌, ◌≤◌, ℕ, List}
use Rattle.std.specs.Prelude.{Option}
use Rattle.jsp_line.specs.Turns.{StaysOpen}
use Rattle.jsp_line.proofs.shared.Shared.read_turns.Given as goal

abbrev pub invariant-turns : goal.invariant-turns
invariant-turns g l =
    (l.seat.session ≡ l.initial.seat.session)
    × (l.reader.failures ≡ l.initial.reader.failures)
    × ((start : Option (List ℕ)) (n : ℕ)
    → StaysOpen l.initial.seat.session start (g.R.Read.remaining l.initial.reader.inner) l.initial.transcript l.initial.line n l.initial.seat.count
    → StaysOpen l.initial.seat.session start (g.R.Read.remaining l.reader.inner) l.transcript l.line n l.seat.count)
    × (l._turn ≤ l.reader.reads)
