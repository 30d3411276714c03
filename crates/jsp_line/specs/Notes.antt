-- What a floor notes of the sessions that it shut by itself. What is noted of the session s stands at the place s - 1.
use Rattle.std.specs.Prelude.{ℕ, ◌-◌, ◌==◌, if◌then◌else◌, List, Option, Some, None, get_or, set}
use Rattle.jsp_line.specs.declared.notes.ShutFor.{ShutFor}

-- why the session was shut so, if it was
abbrev pub reason_of : List (Option ShutFor) → ℕ → Option ShutFor
reason_of notes s = if s == 0 then None else get_or notes (s - 1) None

-- the reason is noted of the session, where it has a place
abbrev pub noting : List (Option ShutFor) → ℕ → ShutFor → List (Option ShutFor)
noting notes s why = if s == 0 then notes else set notes (s - 1) (Some why)
