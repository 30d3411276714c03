-- Registrations that are owed an event, named by their spaces.
use Rattle.std.specs.Prelude.{◌≡◌, ℕ, Bool, true, not, ◌==◌, List, length}
use Rattle.std.specs.List.{AllByRecursion}
use Rattle.jsp_model.specs.declared.state.Registration.{Registration}
use Rattle.jsp_table.specs.Hints.{names}
use Rattle.jsp_table.specs.declared.hints.Hints.{Hints}

abbrev pub is_owed : Registration → Bool
is_owed r = not (length r.owed == 0)

-- if it is owed an event, it is named at its space
abbrev pub IsNamed : Hints → Registration → Type 0
IsNamed hints r = is_owed r ≡ true → names hints r.space r.number ≡ true

abbrev pub AreNamed : Hints → List Registration → Type 0
AreNamed hints rs = AllByRecursion (IsNamed hints) rs
