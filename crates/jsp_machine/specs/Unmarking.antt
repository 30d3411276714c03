-- Rows that a step may let go.
use Rattle.std.specs.Prelude.{Bool, true, ℤ, ◌&&◌, ◌||◌, ◌==◌, List, []}
use Rattle.std.specs.List.{list_any}
use Rattle.std.specs.Option.{option_map_or}
use Rattle.jsp_wire.specs.declared.ask.Ask.{Ask}
use Rattle.jsp_wire.specs.declared.ask.Ask.TheVariants as ask
use Rattle.jsp_model.specs.declared.state.Row.{Row}
use Rattle.jsp_model.specs.declared.step.Step.{Step}
use Rattle.jsp_model.specs.declared.step.Step.TheVariants as step
use Rattle.jsp_model.specs.Lookup.{named}
use Rattle.jsp_quiet.specs.Waking.{is_marked}
use Rattle.jsp_machine.specs.declared.offering.Unmarking.{Unmarking}

-- the row bears a mark of the transaction, in the space or, where none is named, in any
abbrev pub is_unmarked : Unmarking → Row → Bool
is_unmarked u row = option_map_or (λ s. row.space == s) u.space true && is_marked u.transaction row

-- the leases that the request cancels together
abbrev pub ask_cancelled : Ask → List ℤ
ask_cancelled (ask.CancelAll leases) = leases
ask_cancelled _ = []

-- those that the step does
abbrev pub cancelled : Step → List ℤ
cancelled (step.Ask s asked rows) = ask_cancelled asked.ask
cancelled _ = []

-- the row bears a mark of one of these transactions
abbrev pub is_marked_by : List ℤ → Row → Bool
is_marked_by leases row = list_any (λ l. is_marked (named l) row) leases

-- one of these leases is the row's
abbrev pub is_leased : List ℤ → Row → Bool
is_leased leases row = list_any (λ l. row.number == named l) leases

-- either
abbrev pub is_touched_by : List ℤ → Row → Bool
is_touched_by leases row = list_any (λ l. is_marked (named l) row || row.number == named l) leases
