-- What comes through a door, and what the lines that it gave read and wrote.
use Rattle.std.specs.Prelude.{◌≡◌, ℕ, nat_lt, true, List, All, Option, None}
use Rattle.jsp_line.specs.declared.answer_writer.Health.{Health}
use Rattle.jsp_line.specs.declared.transcript.Transcript.TheVariants.{Whole}
use Rattle.jsp_line.specs.Reading.{Faults, Reads}
use Rattle.jsp_line.specs.Writing.{Writes}
use Rattle.jsp_closing.specs.declared.closed.Closed.{Closed}
use Rattle.jsp_closing.specs.declared.closed.Closed.TheVariants as closed
use Rattle.jsp_closing.specs.declared.closed.LineReport.{LineReport}
use Rattle.jsp_floor.specs.Served.{has_answered}
use Rattle.jsp_floor.specs.declared.door.Arrival.{Arrival}
use Rattle.jsp_floor.specs.declared.door.Arrival.TheVariants as arrival

-- where a line comes, this is true of its reader and its writer
abbrev pub IfLine : {R W X : Type 0} → Arrival R W X → (R → W → Type 0) → Type 0
IfLine (arrival.Line reader writer connection) P = P reader writer
IfLine _ P = Unit {0}

-- The line was served over a reader that had this to give, and a writer that had this already, where that is known. Its bytes
-- read are those that the reader gave first, and its bytes written were put behind what the writer had. So many requests and
-- faults were acted of what was read, and so many answers taken, whose frames are what was written, or a first part where a
-- write failed. So many of its reads failed, and so many of its writes.
pub record IsServed (from to : Option (List ℕ)) (line : LineReport) : Type 0 where
  -- what the reader and the writer had in the end
  pub left : Option (List ℕ)
  pub behind : Option (List ℕ)
  pub asked : ℕ
  pub taken : ℕ
  pub failed_reads : ℕ
  pub failed_writes : ℕ
  pub health : Health
  pub reads : Reads line.session from left (Whole line.read) line.ended 0 asked
  pub faults : Faults line.ended 0 failed_reads
  pub writes : Writes to behind taken health failed_writes (Whole line.written)
  pub answered : has_answered health ≡ true
  pub read_failed : line.read_failed ≡ nat_lt 0 failed_reads
  pub write_failed : line.write_failed ≡ nat_lt 0 failed_writes

-- it was served over a reader and a writer that a door gave together
pub record CameThrough {R W : Type 0} (gives : R → W → Type 0) (remaining : R → Option (List ℕ)) (contents : W → Option (List ℕ)) (line : LineReport) : Type 0 where
  pub reader : R
  pub writer : W
  pub given : gives reader writer
  pub served : IsServed (remaining reader) (contents writer) line

-- so was it, if it is whole
abbrev pub MayCome : {R W : Type 0} → (R → W → Type 0) → (R → Option (List ℕ)) → (W → Option (List ℕ)) → LineReport → Type 0
MayCome gives remaining contents line = line.is_whole ≡ true → CameThrough gives remaining contents line

-- each whole line of what is answered was served over a reader and a writer that the door gave together
abbrev pub ComeThrough : {R W : Type 0} → (R → W → Type 0) → (R → Option (List ℕ)) → (W → Option (List ℕ)) → Closed → Type 0
ComeThrough gives remaining contents (closed.Whole steps lines) = All (MayCome gives remaining contents) lines.items
ComeThrough gives remaining contents (closed.Sealed steps) = Unit {0}

-- each whole line of what is answered was served, over a reader and a writer of whose bytes nothing is known before
abbrev pub AreServed : Closed → Type 0
AreServed (closed.Whole steps lines) = All (λ (line : LineReport). line.is_whole ≡ true → IsServed None None line) lines.items
AreServed (closed.Sealed steps) = Unit {0}
