use Rattle.std.proofs.Common.{◌≡◌, take, None}
use Rattle.std.specs.Prelude.{find}
use Rattle.jsp_table.specs.Places.{living}
use Rattle.jsp_keyed.proofs.slots.first_at.Given as goal

abbrev pub invariant-places : goal.invariant-places
invariant-places g l = find (g.P.Test.is_passed l.test) (living (take l.place-index l.places)) ≡ None
