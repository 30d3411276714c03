-- Which rows a step moves. Only they and new rows can end a request's waiting.
use Rattle.std.specs.Prelude.{ℕ, Bool, true, false, ◌||◌, ◌==◌}
use Rattle.jsp_wire.specs.declared.ask.Ask.{Ask}
use Rattle.jsp_wire.specs.declared.ask.Ask.TheVariants as ask
use Rattle.jsp_model.specs.declared.state.Row.{Row}
use Rattle.jsp_model.specs.declared.step.Step.{Step}
use Rattle.jsp_model.specs.declared.step.Step.TheVariants as step
use Rattle.jsp_model.specs.Lookup.{named, contains, is_caller}

-- the transaction wrote, took or read the row
abbrev pub is_marked : ℕ → Row → Bool
is_marked x row = is_caller row.writer x || is_caller row.taker x || contains row.readers x

-- the request may change the row, or take it away: its lease ends or is changed, or it bears a mark of the transaction
-- that ends
abbrev pub ask_moves : Ask → Row → Bool
ask_moves (ask.Renew lease ms) row = row.number == named lease
ask_moves (ask.Cancel lease) row = row.number == named lease || is_marked (named lease) row
ask_moves (ask.Abort x) row = is_marked (named x) row
ask_moves _ row = false

-- the step may change the row, or take it away: it gives the row, the row's lease ends or is changed, or the row bears
-- a mark of the transaction that the step is about
abbrev pub moves : Step → Row → Bool
moves (step.Ask s asked rows) row = contains rows row.number || ask_moves asked.ask row
moves (step.Grant blocked rows) row = contains rows row.number
moves (step.Due item) row = row.number == item.number || is_marked item.number row
moves (step.Vote x space) row = is_marked x row
moves (step.Decide x commits) row = is_marked x row
moves _ row = false

-- of this request that isn't said row by row: a class is declared, a space is reset, or several leases are renewed or
-- cancelled together
abbrev pub ask_moves_any : Ask → Bool
ask_moves_any (ask.Declare d) = true
ask_moves_any (ask.RenewAll leases) = true
ask_moves_any (ask.CancelAll leases) = true
ask_moves_any (ask.Reset space) = true
ask_moves_any _ = false

-- of this step that isn't said row by row
abbrev pub moves_any : Step → Bool
moves_any (step.Ask s asked rows) = ask_moves_any asked.ask
moves_any _ = false
