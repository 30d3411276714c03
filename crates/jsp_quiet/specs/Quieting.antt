-- Which spaces a step can leave unquiet, which steps can make something due, and what quieting uses up.
use Rattle.std.specs.Prelude.{ℕ, ℤ, ◌+◌, ◌≤◌, nat_le, Bool, true, false, ◌==◌, List, [], ◌∷◌, ◌++◌, length, sum_by}
use Rattle.std.specs.List.{list_any}
use Rattle.std.specs.Option.{option_map_or}
use Rattle.jsp_wire.specs.declared.ask.Ask.{Ask}
use Rattle.jsp_wire.specs.declared.ask.Ask.TheVariants as ask
use Rattle.jsp_lease.specs.Granted.{granted}
use Rattle.jsp_model.specs.declared.state.State.{State}
use Rattle.jsp_model.specs.declared.state.Blocked.{Blocked}
use Rattle.jsp_model.specs.declared.step.Step.{Step}
use Rattle.jsp_model.specs.declared.step.Step.TheVariants as step
use Rattle.jsp_model.specs.Lookup.{joined_spaces}
use Rattle.jsp_model.specs.Requests.{rows_asked}
use Rattle.jsp_model.specs.Touches.{touches}
use Rattle.jsp_laws.proofs.Lists.{Each}
use Rattle.jsp_model.specs.Steps.{next}

-- ---- what a step stirs

-- the spaces that it touches, or of a decision the joined ones
abbrev pub stirs : State → Step → List ℕ
stirs st (step.Decide x commits) = joined_spaces st x
stirs st s = touches st s

-- the spaces that some step of a run stirs
abbrev pub stirred : State → List Step → List ℕ
stirred st [] = []
stirred st (s ∷ steps) = stirs st s ++ stirred (next st s) steps

abbrev pub decides : Step → Bool
decides (step.Decide x commits) = true
decides _ = false

-- ---- what can make something due

-- a lease of no time
abbrev pub is_at_once : ℤ → Bool
is_at_once lease = option_map_or (λ ms. ms == 0) (granted lease) false

abbrev pub ends_at_once : Ask → Bool
ends_at_once (ask.Write w) = is_at_once w.lease
ends_at_once (ask.WriteAll w) = is_at_once w.lease
ends_at_once (ask.Notify q) = is_at_once q.lease
ends_at_once (ask.Contents q) = is_at_once q.lease
ends_at_once (ask.Txn lease) = is_at_once lease
ends_at_once (ask.Renew lease ms) = is_at_once ms
ends_at_once (ask.RenewAll leases) = list_any (λ l. is_at_once l.1) leases
ends_at_once _ = false

-- a reading of the clock, or a request that grants a lease of no time
abbrev pub can_make_due : Step → Bool
can_make_due (step.Clock t) = true
can_make_due (step.Ask s asked rows) = ends_at_once asked.ask
can_make_due _ = false

-- ---- what quieting uses up

abbrev pub owed_events : State → ℕ
owed_events st = sum_by (λ r. length r.owed) st.registrations

-- answers to waiting requests, and events
abbrev pub left_to_say : State → ℕ
left_to_say st = length st.blocked + owed_events st

-- all that can end
abbrev pub living : State → ℕ
living st = length st.rows + length st.registrations + length st.transactions + length st.blocked + length st.sets

-- a step that quiets a space
abbrev pub quiets : Step → Bool
quiets (step.Grant blocked rows) = true
quiets (step.Empty blocked) = true
quiets (step.Tell registration) = true
quiets _ = false

-- ---- requests for at least one row

-- as readings of payloads are
abbrev pub asks_for_some : Step → Bool
asks_for_some (step.Ask s asked rows) = option_map_or (λ q. nat_le 1 q.most) (rows_asked asked.ask) true
asks_for_some _ = true

abbrev pub AllAskForSome : State → Type 0
AllAskForSome st = Each (λ (b : Blocked). 1 ≤ b.most) st.blocked
