-- What comes of an arrival.
use Rattle.jsp_floor.specs.declared.threads.Admission.{Admission}
use Rattle.jsp_floor.specs.declared.threads.Admission.TheVariants as admission

-- where a line was admitted, this is true of it
abbrev pub IfAdmitted : {C : Type 0} → Admission C → (C → Type 0) → Type 0
IfAdmitted (admission.Line admitted) P = P admitted
IfAdmitted _ P = Unit {0}
