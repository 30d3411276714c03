use Rattle.std.proofs.Common.{◌≡◌, map, reverse}
use Rattle.jsp_types.specs.Classes.{sorted}
use Rattle.jsp_types.proofs.sorting.sorted.Given as goal

abbrev pub invariant-loop-field : goal.invariant-loop-field
invariant-loop-field l = l.ordered.items ≡ sorted (reverse (map (λ f. f.now) l.yielded))
