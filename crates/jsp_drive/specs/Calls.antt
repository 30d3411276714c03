-- What the calls within an act do.
use Rattle.std.specs.Prelude.{ℕ, ◌≡◌, true, List, [], ◌∷◌, ◌++◌, Some, None, map, flat_map, option_to_list, if◌then◌else◌, IsTrue}
use Rattle.std.specs.HashMap.{HashMap}
use Rattle.jsp_model.specs.declared.state.State.{State}
use Rattle.jsp_model.specs.declared.state.Outbox.{Outbox}
use Rattle.jsp_model.specs.declared.step.Step.{Step}
use Rattle.jsp_model.specs.declared.house.Input.{Input}
use Rattle.jsp_model.specs.Lookup.{is_open}
use Rattle.jsp_model.specs.Due.{due}
use Rattle.jsp_model.specs.Quiet.{is_quiet, are_quiet}
use Rattle.jsp_model.specs.Settling.{settle_step, first_unquiet}
use Rattle.jsp_model.specs.Runs.{said_to}
use Rattle.jsp_model.specs.House.{Makes, own_of, touched, accepts, step_of}
use Rattle.jsp_quiet.specs.Steady.{IsSteady}
use Rattle.jsp_drive.specs.declared.acts.Act.{Act}
use Rattle.jsp_drive.specs.declared.acts.Sent.{Sent}
use Rattle.jsp_drive.specs.Versions.{version_behind, SplitsInto}
use Rattle.jsp_drive.specs.Line.{Unheard, IsOpen}
use Rattle.jsp_drive.specs.Lines.{AreLines, pending}
use Rattle.jsp_drive.specs.Tie.{Asks, AsksBy, QuietsFirst, asked_in, frame_for}

-- the input's own step is made, where it is accepted; then nothing is due, and what was touched is quiet
pub record ActsOn (old new : State) (log log' : List Step) (x : Input) : Type 0 where
  pub steps : List Step
  pub makes : Makes old new log log' steps
  pub own : own_of steps ≡ (if accepts old x then step_of x ∷ [] else [])
  pub nothing_due : due new ≡ None
  pub quiet : IsTrue (are_quiet new (touched old steps))

-- the step of a settle turn is made, if a transaction votes, or else the first unquiet space is quieted; then nothing is
-- due, and what was touched is quiet
pub record Turns (old new : State) (log log' : List Step) : Type 0 where
  pub steps : List Step
  pub makes : Makes old new log log' steps
  pub own : own_of steps ≡ option_to_list (settle_step old)
  pub nothing_due : due new ≡ None
  pub quiet : IsTrue (are_quiet new (touched old steps))
  pub first_quiet : settle_step old ≡ None → (p : ℕ) → first_unquiet old ≡ Some p → IsTrue (is_quiet new p)

-- the frames of a line are acted
pub record Serves (s : ℕ) (old new : State) (log log' : List Step) (line line' : Unheard) : Type 0 where
  pub steps : List Step
  pub makes : Makes old new log log' steps
  pub payloads : List (List ℕ)
  pub split : SplitsInto line.version line.rest payloads line'.rest
  pub version : line'.version ≡ version_behind line.version payloads
  pub asks : AsksBy s line.version payloads line'.rest (own_of steps) (is_open new s)
  pub nothing_due : due old ≡ None → due new ≡ None
  pub quiet : IsSteady old → IsTrue (are_quiet new (touched old steps))
  pub goes_on : is_open new s ≡ true → IsOpen line'

module _ {S : Type 0} where
  -- the steps of an act, before anything is handed out
  pub record MakesAct (act : Act) (old new : State) (log log' : List Step) (lines lines' : HashMap ℕ Unheard S) : Type 0 where
    pub steps : List Step
    pub makes : Makes old new log log' steps
    pub asks : Asks act old (own_of steps) new (pending lines) (pending lines')
    pub nothing_due : due old ≡ None → due new ≡ None
    pub quiet : IsSteady old → IsTrue (are_quiet new (touched old steps))
    pub settled : QuietsFirst act old new
    pub are_lines : AreLines lines'

-- the frames of all that lies in an outbox
abbrev pub frames_sent : ℕ → Outbox → List Sent
frames_sent n b = map (frame_for n b.session) b.answers

-- all that waits is handed out, by session number, and sent
pub record Sends (n : ℕ) (old new : State) (log log' : List Step) (sent sent' : List Sent) : Type 0 where
  pub steps : List Step
  pub makes : Makes old new log log' steps
  pub nothing_asked : asked_in steps ≡ []
  pub silent : (s : ℕ) → said_to s old steps ≡ []
  pub untouched : touched old steps ≡ []
  pub new_is : new ≡ record old { outboxes = [] }
  pub sent_is : sent' ≡ sent ++ flat_map (frames_sent n) old.outboxes
