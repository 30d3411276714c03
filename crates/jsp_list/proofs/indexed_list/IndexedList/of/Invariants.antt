use Rattle.std.proofs.Common.{◌≡◌, ◌++◌, length, reverse}
use Rattle.jsp_list.proofs.indexed_list.IndexedList.of.Given as goal

abbrev pub invariant-things : goal.invariant-things
invariant-things g l = l.list ++ reverse l.things.items ≡ l.fn.things

abbrev pub decreases-things : goal.decreases-things
decreases-things g l = length l.things.items
