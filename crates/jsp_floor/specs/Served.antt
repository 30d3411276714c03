-- What the threads of a run answer.
use Rattle.std.specs.Prelude.{◌≡◌, ◌⊎◌, ◌&&◌, not, ℕ, Bool, true, false, List, [], ◌∷◌, ◌++◌, Option, Some, None, Vec}
use Rattle.std.specs.declared.alloc.Global.{Global}
use Rattle.jsp_drive.specs.declared.ended.Ended.{Ended}
use Rattle.jsp_line.specs.declared.answer_writer.Health.{Health}
use Rattle.jsp_line.specs.declared.answer_writer.Health.TheVariants as health
use Rattle.jsp_closing.specs.declared.closed.LineReport.{LineReport}
use Rattle.jsp_model.specs.declared.house.Why.{Why}
use Rattle.jsp_model.specs.declared.house.Why.TheVariants as why
use Rattle.jsp_closing.specs.declared.closed.RunFault.{RunFault}
use Rattle.jsp_closing.specs.declared.closed.RunFault.TheVariants as fault

-- the reports so far and the fault, as contracts see them
pub record Answered : Type 0 where
  pub reports : List LineReport
  pub fault : Option RunFault

-- what a call that was stopped makes of a run
abbrev pub fault_of : Why → RunFault
fault_of why.NoMemory = fault.NoMemory
fault_of why.Sessions = fault.Spawn
fault_of why.EraFull = fault.Audit
fault_of why.Audit = fault.Audit

-- Of several faults the first stands, but that nothing stands above a difference.
abbrev pub noted : Option RunFault → RunFault → Option RunFault
noted known fault.Audit = Some fault.Audit
noted None met = Some met
noted (Some first) met = Some first

-- that a call found no memory is no fault of the run
abbrev pub noted_stop : Option RunFault → Option Why → Option RunFault
noted_stop known None = known
noted_stop known (Some why.NoMemory) = known
noted_stop known (Some why) = noted known (fault_of why)

-- the faults that the two threads of a line met
abbrev pub noted_line : Option RunFault → Option Why → Option Why → Option RunFault
noted_line known read other = noted_stop (noted_stop known read) other

abbrev pub is_short : Option Why → Bool
is_short (Some why.NoMemory) = true
is_short _ = false

abbrev pub has_answered : Health → Bool
has_answered health.NoMemory = false
has_answered _ = true

-- each call of a line's two threads found memory, and so did each answer
abbrev pub found_memory : Option Why → Option Why → Health → Bool
found_memory read other health = not (is_short read) && (not (is_short other) && has_answered health)

-- what is reported of a line whose bytes were kept
abbrev pub report_of : ℕ → Bool → Ended → Vec ℕ Global → Vec ℕ Global → Bool → Bool → Bool → LineReport
report_of session whole ended read written read_failed write_failed by_house =
    record { session = session; is_whole = whole; ended = ended; read = read; written = written; read_failed = read_failed; write_failed = write_failed; shut_by_house = by_house }

-- the report stands behind the others, or there was no memory for it, which is a fault
abbrev pub Adds : List LineReport → List LineReport → Option RunFault → Option RunFault → LineReport → Type 0
Adds old new fault_old fault_new report =
    ((new ≡ old ++ report ∷ []) × (fault_new ≡ fault_old)) ⊎ ((new ≡ old) × (fault_new ≡ noted fault_old fault.NoMemory))

-- so does one of this session that isn't whole
abbrev pub AddsShort : List LineReport → List LineReport → Option RunFault → Option RunFault → ℕ → Type 0
AddsShort old new fault_old fault_new session =
    (report : LineReport) × (report.session ≡ session) × (report.is_whole ≡ false) × Adds old new fault_old fault_new report
