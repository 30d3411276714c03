use Rattle.std.proofs.Common.{◌≡◌, length}
use Rattle.std.specs.Prelude.{filter}
use Rattle.jsp_decided.specs.Decided.{rows_of}
use Rattle.jsp_decided.proofs.RowsAfter.{is_elsewhere}
use Rattle.jsp_decided.proofs.decided.DecidedRows.apply_in.Given as goal

abbrev pub invariant-recorded : goal.invariant-recorded
invariant-recorded l = record {
  same : rows_of l.self ≡ rows_of l.fn.self;
  others : filter (is_elsewhere l.space) l.self.recorded.items ≡ filter (is_elsewhere l.space) l.fn.self.recorded.items;
}

abbrev pub decreases-recorded : goal.decreases-recorded
decreases-recorded l = length l.self.recorded.items
