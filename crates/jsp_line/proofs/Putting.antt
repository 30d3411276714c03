-- Each move keeps the rule of a slot.
use Rattle.std.proofs.Common.{◌≡◌, ℕ, true, List, [], ◌∷◌, ◌++◌, set, sym, refl, ap, ◌∙◌, subst, arith}
use Rattle.std.specs.Prelude.{⊤}
use mathlib.Core.Option.{some, some-injective, some-ne-none}
use lib.ListN.{get_elem?}
use Rattle.crossbeam_queue.specs.Fifo.{Pushes, Pops, Admits}
use Rattle.crossbeam_queue.proofs.Lists.{set_again, at_longer}
use Rattle.jsp_line.specs.declared.sealed.Sealed.{Sealed}
use Rattle.jsp_line.specs.declared.transcript.Transcript.{Transcript}
use Rattle.jsp_line.specs.declared.transcript.Transcript.TheVariants as transcript
use Rattle.jsp_line.specs.Bytes.{has_bytes, IsTranscript}
use Rattle.jsp_line.specs.Slots.{Holds, AreAll, HoldsLast}

-- the owner's pass is the first
first_set : (views : List (List ℕ)) (v w : List ℕ) → get_elem? views 0 ≡ some v → get_elem? (set views 0 w) 0 ≡ some w
first_set [] v w at = absurd (some-ne-none v (sym at))
first_set (u ∷ us) v w at = refl

-- the owner puts its bytes on an empty slot
puts : (v : List ℕ) (x : Transcript) → has_bytes x ≡ true → Pushes HoldsLast 1 0 v x (λ w. Holds x w)
puts v (transcript.Whole bytes) whole [] views room holds at = (bytes.items, (bytes.items, first_set views v bytes.items at, (refl, tt)), refl)
puts v (transcript.Sealed shown) whole [] views room holds at = absurd (cc whole)
puts v transcript.NoMemory whole [] views room holds at = absurd (cc whole)
puts v x whole (y ∷ ys) views room holds at = absurd (omega arith)

pub puts_at : (n pass : ℕ) (v : List ℕ) (x : Transcript) → n ≡ 1 → pass ≡ 0 → has_bytes x ≡ true → Pushes HoldsLast n pass v x (λ w. Holds x w)
puts_at n pass v x one first whole = rw (one, first) (puts v x whole)

-- the owner takes it back
takes : (v : List ℕ) → Pops HoldsLast 0 v (λ x w. Holds x v × (w ≡ v))
takes v x items views holds at =
    let same : holds.0 ≡ v = some-injective holds.0 v (sym holds.1 ∙ at) in
    (v, (v, first_set views v v at, subst (λ (l : List ℕ). AreAll l items) same holds.2.1), (subst (Holds x) same holds.2.0, refl))

pub takes_at : (pass : ℕ) (v : List ℕ) → pass ≡ 0 → Pops HoldsLast pass v (λ x w. Holds x v × (w ≡ v))
takes_at pass v first = rw first (takes v)

-- a view that stays changes nothing
stays : (views : List (List ℕ)) (pass : ℕ) (v last : List ℕ) → get_elem? views pass ≡ some v → get_elem? views 0 ≡ some last → get_elem? (set views pass v) 0 ≡ some last
stays views pass v last at first = ap (λ l. get_elem? l 0) (set_again views pass v at) ∙ first

-- anybody clears it
pub clears : (pass : ℕ) (v : List ℕ) → Pops HoldsLast pass v (λ x w. ⊤)
clears pass v x items views holds at = (v, (holds.0, stays views pass v holds.0 at holds.1, holds.2.1), tt)

-- and puts there what shows why
all_more : (last : List ℕ) (shown : Sealed) (items : List Transcript) → AreAll last items → AreAll last (items ++ transcript.Sealed shown ∷ [])
all_more last shown [] all = (tt, tt)
all_more last shown (x ∷ xs) all = (all.0, all_more last shown xs all.1)

pub shows : (n pass : ℕ) (v : List ℕ) (shown : Sealed) → Pushes HoldsLast n pass v (transcript.Sealed shown) (λ w. ⊤)
shows n pass v shown items views room holds at =
    (v, (holds.0, stays views pass v holds.0 at holds.1, all_more holds.0 shown items holds.2), tt)

pub admits : Admits HoldsLast []
admits items views holds = (holds.0, at_longer views ([] ∷ []) 0 holds.0 holds.1, holds.2)

-- ---- what is taken back

-- there was memory for it
pub holds_room : (x : Transcript) (last : List ℕ) → Holds x last → x ≡ transcript.NoMemory → ⊥
holds_room (transcript.Whole bytes) last holds is = cc is
holds_room (transcript.Sealed shown) last holds is = cc is
holds_room transcript.NoMemory last holds is = holds

-- it is of the bytes that were put
pub holds_bytes : (x back : Transcript) (last all : List ℕ) → has_bytes x ≡ true → Holds x last → Holds back last → IsTranscript x all → IsTranscript back all
holds_bytes (transcript.Whole bytes) (transcript.Whole others) last all whole put back kept = back ∙ sym put ∙ kept
holds_bytes (transcript.Whole bytes) (transcript.Sealed shown) last all whole put back kept = tt
holds_bytes (transcript.Whole bytes) transcript.NoMemory last all whole put back kept = absurd back
holds_bytes (transcript.Sealed shown) back' last all whole put back kept = absurd (cc whole)
holds_bytes transcript.NoMemory back' last all whole put back kept = absurd put
