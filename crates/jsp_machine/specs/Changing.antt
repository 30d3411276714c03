-- What changes in a step, part by part.
use Rattle.std.specs.Prelude.{ℕ, Bool, true, if◌then◌else◌, min, max}
use Rattle.std.specs.Option.{option_map_or}
use Rattle.jsp_reply.specs.declared.refusal.Refusal.{Refusal}
use Rattle.jsp_model.specs.declared.state.State.{State}
use Rattle.jsp_model.specs.declared.step.Step.{Step}
use Rattle.jsp_model.specs.declared.step.Step.TheVariants as step
use Rattle.jsp_model.specs.Lookup.{blocked_of}
use Rattle.jsp_model.specs.Refusals.{refusal}
use Rattle.jsp_model.specs.Requests.{rows_asked}
use Rattle.jsp_model.specs.Changes.{close, commit, abort}
use Rattle.jsp_model.specs.Steps.{has_its_rows, is_choice, is_too_long}
use Rattle.jsp_model.specs.declared.limits.TheConstants.{LAST_TIME}

-- the rows in the step, where it has some, are a choice
abbrev pub has_its_choice : State → Step → Bool
has_its_choice st (step.Ask s a ns) = has_its_rows st s a.id ns (refusal st s a.id a.ask) (rows_asked a.ask)
has_its_choice st (step.Grant n ns) = option_map_or (λ b. is_choice st b ns) (blocked_of st n) true
has_its_choice st _ = true

-- the greatest reading so far, clipped
abbrev pub at_time : State → ℕ → State
at_time st t = record st { time = max st.time (min t LAST_TIME) }

abbrev pub after_fault : State → ℕ → Refusal → State
after_fault st s r = if is_too_long r then close st s else st

abbrev pub decided : State → ℕ → Bool → State
decided st x commits = if commits then commit st x else abort st x
