-- How acts, steps and frames are tied.
use Rattle.std.specs.Prelude.{ℕ, ◌≡◌, ◌+◌, ◌==◌, Bool, true, false, not, List, [], ◌∷◌, ◌++◌, Some, None, map, option_to_list, flat_map, filter, ◌⊎◌, if◌then◌else◌, MatchBool, IsTrue}
use Rattle.jsp_wire.specs.declared.ask.Version.{Version}
use Rattle.jsp_frame.specs.Stream.{IsUnfinished, IsTooLong}
use Rattle.jsp_reply.specs.declared.refusal.Refusal.TheVariants.{TooLong}
use Rattle.jsp_reply.specs.declared.reply.Reply.{Reply}
use Rattle.jsp_model.specs.declared.state.State.{State}
use Rattle.jsp_model.specs.declared.step.Step.{Step}
use Rattle.jsp_model.specs.declared.step.Step.TheVariants as step
use Rattle.jsp_model.specs.declared.house.Input.TheVariants as input
use Rattle.jsp_model.specs.Lookup.{empty, is_open, contains}
use Rattle.jsp_model.specs.Due.{due}
use Rattle.jsp_model.specs.Quiet.{is_quiet, are_quiet}
use Rattle.jsp_model.specs.Settling.{settle_step, first_unquiet}
use Rattle.jsp_model.specs.Steps.{is_rising}
use Rattle.jsp_model.specs.Runs.{IsRun, state_after, said_to}
use Rattle.jsp_model.specs.House.{own_of, touched, accepts, shuts}
use Rattle.jsp_drive.specs.declared.acts.Act.{Act}
use Rattle.jsp_drive.specs.declared.acts.Act.TheVariants as act
use Rattle.jsp_drive.specs.declared.acts.Sent.{Sent}
use Rattle.jsp_drive.specs.Heard.{framed}
use Rattle.jsp_drive.specs.Versions.{longest, version_behind, heard_each, SplitsInto}
use Rattle.jsp_drive.specs.Lines.{Pending, nothing, Same, SameBut}

-- ---- what an act asks for

abbrev pub is_hand_out : Step → Bool
is_hand_out (step.HandOut s n) = true
is_hand_out _ = false

-- what was asked for, but for what is handed out
abbrev pub asked_in : List Step → List Step
asked_in steps = filter (λ x. not (is_hand_out x)) (own_of steps)

-- What a session asks by frames of these payloads and a rest, on a line that has version v at the first: each payload
-- in its turn, all that are there while it stays open, and a fault where the rest begins with a length past the limit,
-- which closes it.
abbrev pub AsksBy : ℕ → Version → List (List ℕ) → List ℕ → List Step → Bool → Type 0
AsksBy s v payloads rest asked stays =
    ((asked ≡ heard_each s v payloads) × (stays ≡ true → IsUnfinished (longest (version_behind v payloads)) rest))
    ⊎ ((asked ≡ heard_each s v payloads ++ step.Fault s None TooLong ∷ []) × IsTooLong (longest (version_behind v payloads)) rest × (stays ≡ false))

-- The bytes are frames and a rest, which stays pending while the session is open, and so does the version behind them.
pub record Hears (s : ℕ) (v : Version) (bytes : List ℕ) (after : Pending) (asked : List Step) (stays : Bool) : Type 0 where
  pub payloads : List (List ℕ)
  pub rest : List ℕ
  pub split : SplitsInto v bytes payloads rest
  pub asks : AsksBy s v payloads rest asked stays
  pub after_is : after ≡ (if stays then record { version = version_behind v payloads; rest = rest } else nothing)

-- what was pending and the piece, in one
pub record HearsPiece (s : ℕ) (bytes : List ℕ) (asked : List Step) (new : State) (before after : ℕ → Pending) : Type 0 where
  pub hears : Hears s (before s).version ((before s).rest ++ bytes) (after s) asked (is_open new s)
  pub others : SameBut s before after

-- what an act asks for, and what it leaves pending
abbrev pub Asks : Act → State → List Step → State → (ℕ → Pending) → (ℕ → Pending) → Type 0
Asks (act.Open s) old asked new before after = (asked ≡ (if accepts old (input.Open s) then step.Open s ∷ [] else [])) × Same before after
Asks (act.Piece s bytes) old asked new before after =
    MatchBool (is_open old s) (HearsPiece s bytes.items asked new before after) ((asked ≡ []) × Same before after)
Asks (act.Shut s) old asked new before after = (asked ≡ shuts old s) × (is_open new s ≡ false) × (after s ≡ nothing) × SameBut s before after
Asks (act.Clock t) old asked new before after = (asked ≡ step.Clock t ∷ []) × Same before after
Asks act.Settle old asked new before after = (asked ≡ option_to_list (settle_step old)) × Same before after

-- ---- what is sent at an act

abbrev pub frame_for : ℕ → ℕ → Reply → Sent
frame_for n s answer = record { act = n; session = s; frame = framed answer }

-- by session number, the frames of what the steps say to each session
pub record Outgoing (n : ℕ) (st : State) (part : List Step) (sent : List Sent) : Type 0 where
  pub to : List ℕ
  pub order : IsTrue (is_rising to)
  pub frames : sent ≡ flat_map (λ s. map (frame_for n s) (said_to s st part)) to
  pub others : (s : ℕ) → contains to s ≡ false → said_to s st part ≡ []

-- ---- what a settle turn leaves

-- At a settle turn where no transaction votes, the first space that wasn't quiet before is quiet after it. Of other acts
-- nothing is said here.
abbrev pub QuietsFirst : Act → State → State → Type 0
QuietsFirst act.Settle old new = settle_step old ≡ None → (p : ℕ) → first_unquiet old ≡ Some p → IsTrue (is_quiet new p)
QuietsFirst _ old new = Unit {0}

-- ---- the parts

-- the part of a run that an act makes
pub record Part (n : ℕ) (act : Act) (st : State) (before after : ℕ → Pending) (part : List Step) (sent : List Sent) : Type 0 where
  pub run : IsRun st part
  pub asks : Asks act st (asked_in part) (state_after st part) before after
  pub nothing_due : due (state_after st part) ≡ None
  pub quiet : IsTrue (are_quiet (state_after st part) (touched st part))
  pub settled : QuietsFirst act st (state_after st part)
  pub handed_out : (state_after st part).outboxes ≡ []
  pub outgoing : Outgoing n st part sent

-- a part, and then the rest
pub record First (n : ℕ) (act : Act) (st : State) (before : ℕ → Pending) (steps : List Step) (sent : List Sent) (Rest : State → (ℕ → Pending) → List Step → List Sent → Type 0) : Type 0 where
  pub part : List Step
  pub more : List Step
  pub now : List Sent
  pub later : List Sent
  pub after : ℕ → Pending
  pub steps_are : steps ≡ part ++ more
  pub sent_is : sent ≡ now ++ later
  pub it : Part n act st before after part now
  pub rest : Rest (state_after st part) after more later

-- The steps are cut into a part for each act, in order, and so is what is sent.
abbrev pub Tied : State → (ℕ → Pending) → ℕ → List Act → List Step → List Sent → Type 0
Tied st before n [] steps sent = (steps ≡ []) × (sent ≡ [])
Tied st before n (act ∷ acts) steps sent = First n act st before steps sent (λ st' after more later. Tied st' after (n + 1) acts more later)

-- from the empty state of these spaces, with nothing pending
abbrev pub IsTied : List (List ℕ) → List Act → List Step → List Sent → Type 0
IsTied spaces acts steps sent = Tied (empty spaces) (λ s. nothing) 0 acts steps sent

-- the bytes that are sent to a session
abbrev pub bytes_to : ℕ → List Sent → List ℕ
bytes_to s sent = flat_map (λ x. x.frame) (filter (λ x. x.session == s) sent)
