-- Which rows a step lets go. Only they and new rows can be given to a request that couldn't be given them before.
use Rattle.std.specs.Prelude.{◌≡◌, ◌⊎◌, ℕ, Bool, true, false, ◌&&◌, ◌||◌, ◌==◌, IsTrue}
use Rattle.std.specs.List.{list_any}
use Rattle.std.specs.Option.{option_map_or}
use Rattle.jsp_wire.specs.declared.ask.Ask.{Ask}
use Rattle.jsp_wire.specs.declared.ask.Ask.TheVariants as ask
use Rattle.jsp_model.specs.declared.state.State.{State}
use Rattle.jsp_model.specs.declared.state.Row.{Row}
use Rattle.jsp_model.specs.declared.state.Blocked.{Blocked}
use Rattle.jsp_model.specs.declared.step.Step.{Step}
use Rattle.jsp_model.specs.declared.step.Step.TheVariants as step
use Rattle.jsp_model.specs.Lookup.{named, joined_at}
use Rattle.jsp_types.specs.Classes.{is_new}
use Rattle.jsp_model.specs.Requests.{class_asked}
use Rattle.jsp_model.specs.Changes.{vote_of, is_not_changed}
use Rattle.jsp_model.specs.Sight.{wants, is_available}
use Rattle.jsp_laws.proofs.Lists.{Each, Has}
use Rattle.jsp_quiet.specs.Waking.{is_marked}

-- the request may take a mark from the row
abbrev pub ask_frees : Ask → Row → Bool
ask_frees (ask.Cancel lease) row = is_marked (named lease) row
ask_frees (ask.CancelAll leases) row = list_any (λ l. is_marked (named l) row) leases
ask_frees (ask.Abort x) row = is_marked (named x) row
ask_frees _ row = false

-- the space would vote that nothing is changed, and so forget what the transaction read there
abbrev pub would_vote_not_changed : State → ℕ → ℕ → Bool
would_vote_not_changed st x space = option_map_or (λ j. is_not_changed (vote_of st x j)) (joined_at st x space) false

-- the step may take a mark from the row: one of the transaction that ends, or that changed nothing in the row's space,
-- which votes
abbrev pub frees : State → Step → Row → Bool
frees st (step.Ask s asked rows) row = ask_frees asked.ask row
frees st (step.Due item) row = is_marked item.number row
frees st (step.Vote x space) row = would_vote_not_changed st x space && (row.space == space && is_marked x row)
frees st (step.Decide x commits) row = is_marked x row
frees st _ row = false

-- of this request that isn't said row by row: a class is declared that wasn't before
abbrev pub ask_frees_any : State → Ask → Bool
ask_frees_any st (ask.Declare d) = is_new st.classes (class_asked d)
ask_frees_any st _ = false

-- of this step that isn't said row by row
abbrev pub frees_any : State → Step → Bool
frees_any st (step.Ask s asked rows) = ask_frees_any st asked.ask
frees_any st _ = false

-- after it the same rows are there, the same requests wait, and each wants the same of them
pub record AsksAlike (st after : State) : Type 0 where
  pub rows : after.rows ≡ st.rows
  pub blocked : after.blocked ≡ st.blocked
  pub wants : (b : Blocked) → Each (λ (row : Row). wants after b row ≡ wants st b row) st.rows

-- the request may take the row away, though nobody is given it: its lease is cancelled
abbrev pub ask_ends : Ask → Row → Bool
ask_ends (ask.Cancel lease) row = row.number == named lease
ask_ends (ask.CancelAll leases) row = list_any (λ l. row.number == named l) leases
ask_ends _ row = false

-- the step may: the row's lease ends
abbrev pub ends : Step → Row → Bool
ends (step.Ask s asked rows) row = ask_ends asked.ask row
ends (step.Due item) row = row.number == item.number
ends _ row = false

-- the step may end the conflict in which the row is: it takes a mark from the row, or the row away
abbrev pub ends_conflict : State → Step → Row → Bool
ends_conflict st act row = frees st act row || ends act row

-- of this request that isn't said row by row: as above, or a space is reset
abbrev pub ask_ends_any : State → Ask → Bool
ask_ends_any st (ask.Reset space) = true
ask_ends_any st a = ask_frees_any st a

abbrev pub ends_any : State → Step → Bool
ends_any st (step.Ask s asked rows) = ask_ends_any st asked.ask
ends_any st _ = false

-- the row stood before the step, and the step lets it go, or the request might have been given it before too
pub record WasThere (st : State) (act : Step) (b : Blocked) (row : Row) : Type 0 where
  pub was : Row
  pub there : Has st.rows was
  pub number : was.number ≡ row.number
  pub free : IsTrue (frees st act was) ⊎ IsTrue (is_available st b was)
