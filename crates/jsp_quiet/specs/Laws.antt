-- Laws of each legal step from a steady state, and of runs of them.
use Rattle.std.specs.Prelude.{◌≡◌, ℕ, ◌+◌, ◌<◌, ◌≤◌, ◌⊎◌, not, List, None, Some, take, length, Result, IsTrue, IsFalse}
use Rattle.std.specs.List.{list_all}
use Rattle.jsp_model.specs.declared.state.State.{State}
use Rattle.jsp_model.specs.declared.state.Row.{Row}
use Rattle.jsp_model.specs.declared.state.Blocked.{Blocked}
use Rattle.jsp_model.specs.declared.state.Registration.{Registration}
use Rattle.jsp_model.specs.declared.step.Step.{Step}
use Rattle.jsp_model.specs.declared.step.Step.TheVariants as step
use Rattle.jsp_model.specs.declared.house.Input.{Input}
use Rattle.jsp_model.specs.declared.house.Stopped.{Stopped}
use Rattle.jsp_lease.specs.declared.item.Item.{Item}
use Rattle.jsp_model.specs.Lookup.{empty, contains}
use Rattle.jsp_model.specs.Sight.{wants, is_available, available, is_in_conflict, has_conflict}
use Rattle.jsp_model.specs.Quiet.{must_wait, is_quiet, are_quiet}
use Rattle.jsp_model.specs.Due.{due}
use Rattle.jsp_model.specs.Touches.{touches}
use Rattle.jsp_model.specs.Steps.{is_legal, next}
use Rattle.jsp_model.specs.Runs.{IsRun, state_after}
use Rattle.jsp_model.specs.House.{is_unasked, touched, Acts}
use Rattle.jsp_laws.proofs.Lists.{Each, Has}
use Rattle.jsp_laws.proofs.Sound.{row_number}
use Rattle.jsp_laws.proofs.Rising.{Rising}
use Rattle.jsp_quiet.specs.Steady.{IsSteady}
use Rattle.jsp_quiet.specs.Quieting.{stirs, stirred, decides, can_make_due, quiets, owed_events, left_to_say, living, asks_for_some, AllAskForSome}
use Rattle.jsp_quiet.specs.Waking.{moves, moves_any}
use Rattle.jsp_quiet.specs.Freeing.{frees_any, AsksAlike, ends_any, ends_conflict, WasThere}

-- ---- steady states

pub record SteadyStates : Type 0 where
  pub first : (names : List (List ℕ)) → IsSteady (empty names)
  pub step : (st : State) (act : Step) → IsTrue (is_legal st act) → IsSteady st → IsSteady (next st act)
  pub run : (st : State) (steps : List Step) → IsRun st steps → IsSteady st → IsSteady (state_after st steps)

-- ---- what stays quiet

-- A space that a step doesn't touch stays quiet; of a decision, one that its transaction didn't join.
abbrev pub QuietStays : Type 0
QuietStays =
    (st : State) (act : Step) (p : ℕ) → IsSteady st → IsTrue (is_legal st act) → IsFalse (contains (stirs st act) p)
    → IsTrue (is_quiet st p) → IsTrue (is_quiet (next st act) p)

-- The same over a run.
abbrev pub QuietAlong : Type 0
QuietAlong =
    (st : State) (steps : List Step) (p : ℕ) → IsSteady st → IsRun st steps → IsFalse (contains (stirred st steps) p)
    → IsTrue (is_quiet st p) → IsTrue (is_quiet (state_after st steps) p)

-- A run without decisions that leaves quiet what it touches leaves quiet what was quiet.
abbrev pub QuietAtEnd : Type 0
QuietAtEnd =
    (st : State) (steps : List Step) (p : ℕ) → IsSteady st → IsRun st steps → IsTrue (list_all (λ s. not (decides s)) steps)
    → IsTrue (are_quiet (state_after st steps) (touched st steps))
    → IsTrue (is_quiet st p) → IsTrue (is_quiet (state_after st steps) p)

-- An act of a house keeps its state steady.
abbrev pub ActsSteady : Type 0
ActsSteady =
    (old new : State) (owed left : List ℕ) (before after : List Step) (x : Input) (result : Result Unit Stopped) → IsSteady old
    → Acts old new owed left before after x result → IsSteady new

-- ---- what goes on waiting, over any step from any state

-- A request that must wait goes on waiting over a step that moves no row which it wants, and adds none.
abbrev pub WaitingStays : Type 0
WaitingStays =
    (st : State) (act : Step) (b : Blocked) → IsFalse (moves_any act) → IsTrue (must_wait st b)
    → Each (λ (row : Row). IsTrue (moves act row) → IsFalse (wants st b row)) st.rows
    → Each (λ (row : Row). st.next_number ≤ row.number → IsFalse (wants st b row)) (next st act).rows
    → IsTrue (must_wait (next st act) b)

-- What waits after a step waited before it, or has a new number and must wait.
abbrev pub WaitingComes : Type 0
WaitingComes =
    (st : State) (act : Step) (b : Blocked) → Has (next st act).blocked b
    → Has st.blocked b ⊎ ((st.next_number ≤ b.number) × IsTrue (must_wait (next st act) b))

-- A row that a request may be given after a step is new, or stood before it, and the step let it go or the request might
-- have been given it before too.
abbrev pub FreeComes : Type 0
FreeComes =
    (st : State) (act : Step) (b : Blocked) (row : Row) → IsFalse (frees_any st act) → Has (next st act).rows row
    → IsTrue (is_available (next st act) b row) → (st.next_number ≤ row.number) ⊎ WasThere st act b row

-- A class that is declared in a steady state changes nothing for those who wait.
abbrev pub DeclaringStays : Type 0
DeclaringStays = (st : State) (act : Step) → IsSteady st → IsTrue (frees_any st act) → AsksAlike st (next st act)

-- A row by which a request is held up goes on holding it up over a legal step, unless this may take a mark from the row,
-- or the row away.
abbrev pub ConflictStays : Type 0
ConflictStays =
    (st : State) (act : Step) (b : Blocked) (row : Row) → Rising row_number st.rows → IsTrue (is_legal st act) → IsFalse (ends_any st act)
    → Has st.rows row → IsTrue (is_in_conflict st b row) → IsFalse (ends_conflict st act row) → IsTrue (has_conflict (next st act) b)

-- ---- what becomes due

-- Only a reading of the clock and a request that grants a lease of no time make something due.
abbrev pub NothingBecomesDue : Type 0
NothingBecomesDue = (st : State) (act : Step) → IsSteady st → IsFalse (can_make_due act) → due st ≡ None → due (next st act) ≡ None

abbrev pub NothingBecomesDueAlong : Type 0
NothingBecomesDueAlong =
    (st : State) (steps : List Step) → IsSteady st → IsRun st steps → IsTrue (list_all (λ s. not (can_make_due s)) steps) → due st ≡ None
    → due (state_after st steps) ≡ None

-- ---- what quieting uses up

-- what each step that nobody asks for uses up, and what it leaves as it is
pub record UsesUp : Type 0 where
  pub grant_blocked : (st : State) (n : ℕ) (ns : List ℕ) → IsTrue (is_legal st (step.Grant n ns)) → length (next st (step.Grant n ns)).blocked < length st.blocked
  pub grant_registrations : (st : State) (n : ℕ) (ns : List ℕ) → IsTrue (is_legal st (step.Grant n ns)) → (next st (step.Grant n ns)).registrations ≡ st.registrations
  pub empty_blocked : (st : State) (n : ℕ) → IsTrue (is_legal st (step.Empty n)) → length (next st (step.Empty n)).blocked < length st.blocked
  pub empty_registrations : (st : State) (n : ℕ) → IsTrue (is_legal st (step.Empty n)) → (next st (step.Empty n)).registrations ≡ st.registrations
  pub tell_owed : (st : State) (n : ℕ) → IsTrue (is_legal st (step.Tell n)) → owed_events (next st (step.Tell n)) < owed_events st
  pub tell_blocked : (st : State) (n : ℕ) → IsTrue (is_legal st (step.Tell n)) → (next st (step.Tell n)).blocked ≡ st.blocked
  pub due_living : (st : State) (i : Item) → IsTrue (is_legal st (step.Due i)) → living (next st (step.Due i)) < living st
  pub due_left : (st : State) (i : Item) → IsTrue (is_legal st (step.Due i)) → left_to_say (next st (step.Due i)) ≤ left_to_say st

-- No more than so many of them can follow one another.
pub record Ends : Type 0 where
  pub quieting : (st : State) (steps : List Step) → IsRun st steps → IsTrue (list_all quiets steps) → length steps ≤ left_to_say st
  pub free : (st : State) (steps : List Step) → IsRun st steps → IsTrue (list_all is_unasked steps) → length steps ≤ left_to_say st + living st

-- ---- what a house can always do

-- Each waiting request asks for at least one row, if each was asked so.
abbrev pub AskingStays : Type 0
AskingStays = (st : State) (act : Step) → IsTrue (asks_for_some act) → AllAskForSome st → AllAskForSome (next st act)

pub record LawsOfProgress : Type 0 where
  -- a request that need not wait gets the first rows that are available to it, or is answered that there are none
  pub grant : (st : State) (b : Blocked) → IsSteady st → Has st.blocked b → 1 ≤ b.most → 0 < length (available st b) → IsTrue (is_legal st (step.Grant b.number (take b.most (available st b))))
  pub empty : (st : State) (b : Blocked) → IsSteady st → Has st.blocked b → length (available st b) ≡ 0 → IsFalse (must_wait st b) → IsTrue (is_legal st (step.Empty b.number))
  pub tell : (st : State) (r : Registration) → IsSteady st → Has st.registrations r → 0 < length r.owed → IsTrue (is_legal st (step.Tell r.number))
  -- so a space that isn't quiet can be quieted further
  pub quiet : (st : State) (p : ℕ) → IsSteady st → AllAskForSome st → IsFalse (is_quiet st p) → (act : Step) × IsTrue (quiets act) × IsTrue (is_legal st act)
  -- what is due can end, once the spaces that this touches are quiet
  pub end : (st : State) (i : Item) → due st ≡ Some i → IsTrue (are_quiet st (touches st (step.Due i))) → IsTrue (is_legal st (step.Due i))
