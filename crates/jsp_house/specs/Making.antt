-- What the parts of a call promise of the log and of the step that was asked for.
use Rattle.std.specs.Prelude.{◌≡◌, ℕ, Bool, true, false, if◌then◌else◌, ◌&&◌, nat_lt, nat_le, List, [], ◌∷◌, ◌++◌, Option, Result, is_none, IsTrue, ◌-◌, Vec, vec_len, vec_capacity}
use Rattle.std.specs.declared.alloc.Global.{Global}
use Rattle.std.specs.List.{list_any, list_all}
use Rattle.std.specs.Option.{option_map_or}
use Rattle.jsp_model.specs.declared.state.State.{State}
use Rattle.jsp_model.specs.declared.step.Step.{Step}
use Rattle.jsp_model.specs.declared.step.Step.TheVariants as step
use Rattle.jsp_model.specs.declared.house.Stopped.{Stopped}
use Rattle.jsp_model.specs.Lookup.{is_open, is_voting, joined_of, joined_at}
use Rattle.jsp_model.specs.Steps.{is_fault, is_vote_to_abort, is_vote_to_commit, has_its_rows}
use Rattle.jsp_model.specs.Refusals.{refusal}
use Rattle.jsp_model.specs.Requests.{rows_asked}
use Rattle.jsp_model.specs.Touches.{touches}
use Rattle.jsp_model.specs.House.{Covers, OwesOnce, come_in_turn, Makes, Leaves, KeepsRoom, IsWithin, is_full, own_of, bare, is_unasked, touched, was_done}
use Rattle.jsp_model.specs.declared.limits.TheConstants.{LAST_SESSION}

-- ---- the log

-- the log keeps its room, and stays within its bound; a full log stays as it is
pub record KeepsLog (old new : State) (bound : Option ℕ) (before after : Vec Step Global) : Type 0 where
  pub room : KeepsRoom old new (vec_capacity before - vec_len before) (vec_capacity after - vec_len after)
  pub within : IsWithin bound (vec_len before) → IsWithin bound (vec_len after)
  pub full : is_full bound (vec_len before) ≡ true → vec_len after ≡ vec_len before

-- ---- a step that is asked for

-- Only what is due, spaces that aren't quiet, and its rows stand between the step and being legal.
abbrev pub may_come : State → Step → Bool
may_come st (step.Open s) = nat_le 1 s && nat_lt st.last_session s && nat_le s LAST_SESSION
may_come st (step.Clock t) = true
may_come st (step.Ask s asked ns) = is_open st s
may_come st (step.Fault s id r) = is_open st s && is_fault r
may_come st (step.Vote x space) = is_voting st x && option_map_or (λ j. is_none j.vote) (joined_at st x space) false
may_come st (step.Decide x commits) =
    is_voting st x && (if commits then list_all is_vote_to_commit (joined_of st x) else list_any is_vote_to_abort (joined_of st x))
may_come st _ = false

-- a request's step gives a choice of rows, and any other step none
abbrev pub has_rows : State → Step → Bool
has_rows st (step.Ask s asked ns) = has_its_rows st s asked.id ns (refusal st s asked.id asked.ask) (rows_asked asked.ask)
has_rows st _ = true

-- the step, if the call was done
abbrev pub if_done : {A : Type 0} → Step → Result A Stopped → List Step
if_done x result = if was_done result then bare x ∷ [] else []

-- the step is made, if the call was done, and what goes before it and follows from it
pub record Performs (old new : State) (owed left : List ℕ) (before after : List Step) (x : Step) (result : Result Unit Stopped) : Type 0 where
  pub steps : List Step
  pub makes : Makes old new before after steps
  pub own : own_of steps ≡ if_done x result
  pub leaves : Leaves result new (touched old steps ++ owed) left
  pub turn : IsTrue (come_in_turn old owed steps)
  pub once : OwesOnce owed left

-- the step was made, with the rows that it gives, and is owed to what it touches
pub record MakesOwn (old new : State) (owed left : List ℕ) (before after : List Step) (x : Step) : Type 0 where
  pub made : Step
  pub same : bare made ≡ bare x
  pub asked : is_unasked made ≡ false
  pub makes : Makes old new before after (made ∷ [])
  pub covers : Covers left (touches old made ++ owed)
  pub once : OwesOnce owed left
