-- What differs denies each thing that would need it to be the same.
use Rattle.jsp_closing.specs.declared.closed.Fault.{Fault}
use Rattle.jsp_closing.specs.declared.closed.Fault.TheVariants.{Differs, NoMemory}
use Rattle.jsp_closing.specs.Faults.{Denies}

pub denies_weaker : (P Q : Type 0) → (Q → P) → (e : Fault) → Denies e P → Denies e Q
denies_weaker P Q f Differs h = λ q. h (f q)
denies_weaker P Q f NoMemory h = tt

-- and where what is asked first follows too
pub denies_from : (P T Q : Type 0) → (P → T) → (P → Q) → (e : Fault) → (T → Denies e Q) → Denies e P
denies_from P T Q t q Differs h = λ p. h (t p) (q p)
denies_from P T Q t q NoMemory h = tt
