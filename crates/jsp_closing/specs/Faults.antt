-- Why a history isn't taken for that of its lines.
use Rattle.jsp_closing.specs.declared.closed.Fault.{Fault}
use Rattle.jsp_closing.specs.declared.closed.Fault.TheVariants.{Differs, NoMemory}

-- where something differs this isn't so; want of memory says nothing
abbrev pub Denies : Fault → Type 0 → Type 0
Denies Differs P = P → ⊥
Denies NoMemory P = Unit {0}
