-- What is in a slot.
use Rattle.std.specs.Prelude.{◌≡◌, ℕ, List, [], ◌∷◌}
use mathlib.Core.Option.{some}
use lib.ListN.{get_elem?}
use Rattle.jsp_line.specs.declared.transcript.Transcript.{Transcript}
use Rattle.jsp_line.specs.declared.transcript.Transcript.TheVariants as transcript

-- it is these bytes, or shows that an era was sealed
abbrev pub Holds : Transcript → List ℕ → Type 0
Holds (transcript.Whole bytes) last = bytes.items ≡ last
Holds (transcript.Sealed shown) last = Unit {0}
Holds transcript.NoMemory last = ⊥

abbrev pub AreAll : List ℕ → List Transcript → Type 0
AreAll last [] = Unit {0}
AreAll last (item ∷ items) = Holds item last × AreAll last items

-- what is in it is what its owner, whose pass is the first, has put there last, or shows why that was dropped
abbrev pub HoldsLast : List Transcript → List (List ℕ) → Type 0
HoldsLast items views = (last : List ℕ) × (get_elem? views 0 ≡ some last) × AreAll last items
