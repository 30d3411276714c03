-- What the calls of a house promise.
use Rattle.std.specs.Prelude.{◌≡◌, ℕ, ◌≤◌, Bool, true, false, not, if◌then◌else◌, ◌&&◌, ◌||◌, ◌==◌, nat_lt, nat_le, List, [], ◌∷◌, ◌++◌, length, map, filter, find, Option, Some, None, Result, Ok, Err, option_map, option_to_list, IsTrue}
use Rattle.std.specs.List.{list_all}
use Rattle.std.specs.Option.{option_map_or}
use Rattle.jsp_model.specs.declared.state.State.{State}
use Rattle.jsp_model.specs.declared.step.Step.{Step}
use Rattle.jsp_model.specs.declared.step.Step.TheVariants as step
use Rattle.jsp_model.specs.declared.house.Input.{Input}
use Rattle.jsp_model.specs.declared.house.Input.TheVariants as input
use Rattle.jsp_model.specs.declared.house.Stopped.{Stopped}
use Rattle.jsp_model.specs.declared.house.Why.{Why}
use Rattle.jsp_model.specs.declared.house.Why.TheVariants as why
use Rattle.jsp_model.specs.declared.house.Settled.{Settled}
use Rattle.jsp_model.specs.declared.house.Settled.TheVariants as settled
use Rattle.jsp_model.specs.Lookup.{contains, is_open, registration_of}
use Rattle.jsp_model.specs.Limits.{are_apart}
use Rattle.jsp_model.specs.Due.{due}
use Rattle.jsp_model.specs.Quiet.{must_wait, is_quiet, are_quiet}
use Rattle.jsp_model.specs.Touches.{touches}
use Rattle.jsp_model.specs.Steps.{next, is_fault}
use Rattle.jsp_model.specs.Runs.{IsRun, state_after}
use Rattle.jsp_model.specs.Settling.{settle_step, first_unquiet, AllQuiet}
use Rattle.jsp_model.specs.declared.limits.TheConstants.{LAST_SESSION}

-- ---- steps that are asked for

-- a step that a house makes by itself
abbrev pub is_unasked : Step → Bool
is_unasked (step.Grant blocked rows) = true
is_unasked (step.Empty blocked) = true
is_unasked (step.Tell registration) = true
is_unasked (step.Due item) = true
is_unasked _ = false

-- the step without what was chosen in it
abbrev pub bare : Step → Step
bare (step.Ask s asked rows) = step.Ask s asked []
bare step = step

-- the steps that were asked for
abbrev pub own_of : List Step → List Step
own_of steps = map bare (filter (λ x. not (is_unasked x)) steps)

-- the spaces that some step of a run touches
abbrev pub touched : State → List Step → List ℕ
touched st [] = []
touched st (step ∷ steps) = touches st step ++ touched (next st step) steps

-- ---- the order of steps that nobody asked for

-- nobody who waits at the space could be answered
unfoldable pub all_must_wait : State → ℕ → Bool
all_must_wait st space = list_all (λ b. not (b.space == space) || must_wait st b) st.blocked

-- An event is told only where nobody who waits at its space could be answered, and what is due ends only where what is
-- owed is quiet.
abbrev pub comes_in_turn : State → List ℕ → Step → Bool
comes_in_turn st owed (step.Tell n) = option_map_or (λ r. all_must_wait st r.space) (registration_of st n) true
comes_in_turn st owed (step.Due item) = are_quiet st owed
comes_in_turn st owed _ = true

-- each step of a run does, where what a step touches is owed from then on
abbrev pub come_in_turn : State → List ℕ → List Step → Bool
come_in_turn st owed [] = true
come_in_turn st owed (step ∷ steps) = comes_in_turn st owed step && come_in_turn (next st step) (touches st step ++ owed) steps

-- no space is owed twice, unless one was before
abbrev pub OwesOnce : List ℕ → List ℕ → Type 0
OwesOnce owed left = IsTrue (are_apart owed) → IsTrue (are_apart left)

-- ---- what a call adds to the log

-- the log gains these steps, a run from the old state to the new one
pub record Makes (old new : State) (before after steps : List Step) : Type 0 where
  pub log : after ≡ before ++ steps
  pub run : IsRun old steps
  pub view : state_after old steps ≡ new

-- ---- inputs

-- the caller's condition
abbrev pub is_input : Input → Bool
is_input (input.Fault s id refusal) = is_fault refusal
is_input _ = true

-- the step of an input
abbrev pub step_of : Input → Step
step_of (input.Open s) = step.Open s
step_of (input.Clock t) = step.Clock t
step_of (input.Ask s asked) = step.Ask s asked []
step_of (input.Fault s id refusal) = step.Fault s id refusal

-- an Open that isn't legal, and what comes from a closed session, is passed over
abbrev pub accepts : State → Input → Bool
accepts st (input.Open s) = nat_le 1 s && nat_lt st.last_session s && nat_le s LAST_SESSION
accepts st (input.Clock t) = true
accepts st (input.Ask s asked) = is_open st s
accepts st (input.Fault s id refusal) = is_open st s

abbrev pub was_done : {A : Type 0} → Result A Stopped → Bool
was_done (Ok _) = true
was_done (Err e) = e.done

-- the steps that an act is asked for
abbrev pub acted : {A : Type 0} → State → Input → Result A Stopped → List Step
acted st x result = if accepts st x && was_done result then step_of x ∷ [] else []

-- each of these spaces is owed
abbrev pub Covers : List ℕ → List ℕ → Type 0
Covers owed spaces = IsTrue (list_all (contains owed) spaces)

-- Nothing is due and these spaces are quiet; or the call was stopped, and they are owed.
abbrev pub Leaves : {A : Type 0} → Result A Stopped → State → List ℕ → List ℕ → Type 0
Leaves (Ok _) new spaces owed = (due new ≡ None) × IsTrue (are_quiet new spaces) × (owed ≡ [])
Leaves (Err e) new spaces owed = Covers owed spaces

-- what an act does: of the steps that it adds, those that were asked for are the input's own
pub record Acts (old new : State) (owed left : List ℕ) (before after : List Step) (x : Input) (result : Result Unit Stopped) : Type 0 where
  pub steps : List Step
  pub makes : Makes old new before after steps
  pub own : own_of steps ≡ acted old x result
  pub leaves : Leaves result new (touched old steps ++ owed) left
  pub turn : IsTrue (come_in_turn old owed steps)
  pub once : OwesOnce owed left

-- an Open that is stopped isn't done
abbrev pub OpensNone : {A : Type 0} → Input → Result A Stopped → Type 0
OpensNone (input.Open s) (Err e) = e.done ≡ false
OpensNone _ _ = Unit {0}

-- ---- making ready

-- Steps that nobody asked for were made. What they touched is owed, and what was owed before still is.
pub record Goes (old new : State) (owed left : List ℕ) (before after : List Step) : Type 0 where
  pub steps : List Step
  pub makes : Makes old new before after steps
  pub own : own_of steps ≡ []
  pub covers : Covers left (touched old steps ++ owed)
  pub turn : IsTrue (come_in_turn old owed steps)
  pub once : OwesOnce owed left

-- Nothing is due, and what is owed and what the input's step touches is quiet.
pub record IsReady (st : State) (spaces : List ℕ) (x : Input) : Type 0 where
  pub nothing_due : due st ≡ None
  pub owed : IsTrue (are_quiet st spaces)
  pub to_come : IsTrue (are_quiet st (touches st (step_of x)))

-- ---- settling and finishing

-- the step of a settle turn, if the call was done
abbrev pub settled_by : State → Result Settled Stopped → List Step
settled_by st result = if was_done result then option_to_list (settle_step st) else []

-- what a turn answers once this step is made
abbrev pub answer_to : Step → Settled
answer_to (step.Vote x space) = settled.Voted
answer_to _ = settled.Decided

-- what the next turn answers, where a transaction votes
abbrev pub next_turn : State → Option Settled
next_turn st = option_map answer_to (settle_step st)

-- What a settle turn answers: the step that it made; or that no transaction votes, and what is quiet now.
abbrev pub AnswersTurn : State → State → Settled → Type 0
AnswersTurn old new settled.Voted = (x : ℕ) × (space : ℕ) × (settle_step old ≡ Some (step.Vote x space))
AnswersTurn old new settled.Decided = (x : ℕ) × (commits : Bool) × (settle_step old ≡ Some (step.Decide x commits))
AnswersTurn old new settled.Quieted = (settle_step old ≡ None) × (p : ℕ) × (first_unquiet old ≡ Some p) × IsTrue (is_quiet new p)
AnswersTurn old new settled.Idle = (settle_step old ≡ None) × AllQuiet new

-- a turn that a full log stopped where no transaction votes owes the first space that wasn't quiet
abbrev pub AnswersOf : State → State → List ℕ → Result Settled Stopped → Type 0
AnswersOf old new left (Ok s) = AnswersTurn old new s
AnswersOf old new left (Err e) = e.why ≡ why.EraFull → settle_step old ≡ None → Covers left (option_to_list (first_unquiet old))

-- what a settle turn does
pub record Settles (old new : State) (owed left : List ℕ) (before after : List Step) (result : Result Settled Stopped) : Type 0 where
  pub steps : List Step
  pub makes : Makes old new before after steps
  pub own : own_of steps ≡ settled_by old result
  pub leaves : Leaves result new (touched old steps ++ owed) left
  pub answers : AnswersOf old new left result
  pub turn : IsTrue (come_in_turn old owed steps)
  pub once : OwesOnce owed left

-- what is owed is made, and what is due, without a step of its own
pub record Finishes (old new : State) (owed left : List ℕ) (before after : List Step) (result : Result Unit Stopped) : Type 0 where
  pub steps : List Step
  pub makes : Makes old new before after steps
  pub own : own_of steps ≡ []
  pub leaves : Leaves result new (touched old steps ++ owed) left
  pub turn : IsTrue (come_in_turn old owed steps)
  pub once : OwesOnce owed left

-- ---- the room and the bound of the log

-- As many places are spare as sessions are open, if there were that many before: so each of them can be shut.
abbrev pub KeepsRoom : State → State → ℕ → ℕ → Type 0
KeepsRoom old new before after = length old.sessions ≤ before → length new.sessions ≤ after

abbrev pub IsWithin : Option ℕ → ℕ → Type 0
IsWithin None n = Unit {0}
IsWithin (Some most) n = n ≤ most

abbrev pub is_full : Option ℕ → ℕ → Bool
is_full None n = false
is_full (Some most) n = nat_le most n

-- The bound stays, and the log stays within it. A full log stays as it is, also one past its bound.
pub record KeepsBound (old new : Option ℕ) (before after : ℕ) : Type 0 where
  pub same : new ≡ old
  pub within : IsWithin old before → IsWithin old after
  pub full : is_full old before ≡ true → after ≡ before

-- A house is stopped by want of memory, or where the log has reached its bound.
abbrev pub MayStop : Option ℕ → ℕ → Why → Type 0
MayStop bound n why.NoMemory = Unit {0}
MayStop bound n why.EraFull = IsTrue (is_full bound n)
MayStop bound n why.Sessions = ⊥
MayStop bound n why.Audit = ⊥

-- Where it was a full log that stopped the call before its own step, it was full at the call.
abbrev pub WasFull : {A : Type 0} → Option ℕ → ℕ → Result A Stopped → Type 0
WasFull bound n (Ok x) = Unit {0}
WasFull bound n (Err e) = e.why ≡ why.EraFull → e.done ≡ false → IsTrue (is_full bound n)

-- ---- handing out and closing

abbrev pub handed_out : ℕ → ℕ → List Step
handed_out s n = if n == 0 then [] else step.HandOut s n ∷ []

abbrev pub shuts : State → ℕ → List Step
shuts st s = if is_open st s then step.Shut s ∷ [] else []

-- the least session above this number that has answers waiting
abbrev pub next_waiting : State → ℕ → Option ℕ
next_waiting st after = option_map (λ b. b.session) (find (λ b. nat_lt after b.session) st.outboxes)

-- some commit awaits its decision
abbrev pub awaits_decision : State → Bool
awaits_decision st = not (length st.commits == 0)
