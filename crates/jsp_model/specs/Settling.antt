-- What a settle turn does: one step for the transaction whose commit was asked first; where none votes, it makes the
-- first space that isn't quiet quiet.
use Rattle.std.specs.Prelude.{ℕ, true, false, not, if◌then◌else◌, List, [], ◌∷◌, length, find, Option, Some, None, is_none, option_map, IsTrue}
use Rattle.std.specs.List.{list_any, list_all, range_with_len}
use Rattle.std.specs.Option.{option_map_or}
use Rattle.jsp_model.specs.declared.state.State.{State}
use Rattle.jsp_model.specs.declared.state.Commit.{Commit}
use Rattle.jsp_model.specs.declared.state.Joined.{Joined}
use Rattle.jsp_model.specs.declared.step.Step.{Step}
use Rattle.jsp_model.specs.declared.step.Step.TheVariants as step
use Rattle.jsp_model.specs.Lookup.{joined_of}
use Rattle.jsp_model.specs.Quiet.{is_quiet}
use Rattle.jsp_model.specs.Steps.{is_vote_to_abort}

-- ---- the transaction that votes

abbrev pub first_commit : List Commit → Option ℕ
first_commit [] = None
first_commit (c ∷ commits) = Some c.transaction

-- the transaction whose commit was asked first, of those that aren't decided
abbrev pub first_voting : State → Option ℕ
first_voting st = first_commit st.commits

-- of these joined spaces: an abort as soon as a vote is for it, else the next vote in joining order, and else a commit
abbrev pub turn_at : ℕ → List Joined → Step
turn_at x joined =
    if list_any is_vote_to_abort joined then step.Decide x false
    else option_map_or (λ j. step.Vote x j.space) (find (λ j. is_none j.vote) joined) (step.Decide x true)

abbrev pub turn_of : State → ℕ → Step
turn_of st x = turn_at x (joined_of st x)

-- the step of a settle turn, if a transaction votes
abbrev pub settle_step : State → Option Step
settle_step st = option_map (turn_of st) (first_voting st)

-- ---- the spaces

-- the places of all spaces, in the configured order
abbrev pub places : State → List ℕ
places st = range_with_len 0 (length st.spaces)

-- the first space that isn't quiet
abbrev pub first_unquiet : State → Option ℕ
first_unquiet st = find (λ p. not (is_quiet st p)) (places st)

abbrev pub AllQuiet : State → Type 0
AllQuiet st = IsTrue (list_all (is_quiet st) (places st))
