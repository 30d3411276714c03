use Rattle.std.proofs.Common.{◌<◌, take}
use Rattle.std.specs.List.{AllByRecursion}
use Rattle.jsp_index.specs.declared.starts.Unseen.{Unseen}
use Rattle.jsp_index.specs.Starts.{start_at}
use Rattle.jsp_index.specs.Keys.{row_keys}
use Rattle.jsp_index.specs.Passed.{AreLower}
use Rattle.jsp_index.proofs.passing.put_above.Given as goal

abbrev pub invariant-places : goal.invariant-places
invariant-places l = record {
  down : AreLower l.fn.starts l.starts;
  below : AllByRecursion (λ k. (u : Unseen) → start_at u l.starts k < l.row.number) (take l.place (row_keys l.seed l.row));
}
