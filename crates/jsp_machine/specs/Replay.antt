-- Why a list of steps isn't replayed.
use Rattle.std.specs.Prelude.{◌≡◌, ℕ, Bool, false, Option, Some}
use Rattle.jsp_machine.specs.declared.replaying.ReplayFault.{ReplayFault}
use Rattle.jsp_machine.specs.declared.replaying.ReplayFault.TheVariants.{Illegal, NoMemory}

-- the fault names the place of the first illegal step; want of memory says nothing
abbrev pub FailsAt : ReplayFault → Option ℕ → Type 0
FailsAt (Illegal place) first = first ≡ Some place
FailsAt NoMemory first = Unit {0}

-- the fault names this place, where the step isn't legal; want of memory says nothing
abbrev pub StopsAt : ReplayFault → ℕ → Bool → Type 0
StopsAt (Illegal n) place legal = (n ≡ place) × (legal ≡ false)
StopsAt NoMemory place legal = Unit {0}
