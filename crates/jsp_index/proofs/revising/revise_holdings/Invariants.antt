use Rattle.std.proofs.Common.{◌≡◌, take}
use Rattle.std.specs.List.{filter_map}
use Rattle.jsp_index.proofs.Listed.{revised_of}
use Rattle.jsp_index.proofs.revising.revise_holdings.Given as goal

abbrev pub invariant-holdings : goal.invariant-holdings
invariant-holdings g l = l.rows ≡ filter_map (revised_of (g.R.Revision.is_gone l.revision) (g.R.Change.changed l.revision) (take l.holding-index l.holdings)) l.fn.rows
