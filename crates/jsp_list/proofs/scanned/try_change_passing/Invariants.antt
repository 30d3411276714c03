use Rattle.std.proofs.Common.{◌≡◌, ◌++◌, map, take, drop}
use Rattle.jsp_keyed.specs.Changing.{where_passed}
use Rattle.jsp_list.proofs.scanned.try_change_passing.Given as goal

abbrev pub invariant-places : goal.invariant-places
invariant-places g l = l.things ≡ map (where_passed (g.P.Test.is_passed l.test) (g.C.TryChange.changed l.change)) (take l.place l.initial.things) ++ drop l.place l.initial.things
