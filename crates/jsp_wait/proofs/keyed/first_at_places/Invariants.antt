use Rattle.std.proofs.Common.{◌≡◌, take, None}
use Rattle.std.specs.Prelude.{find}
use Rattle.jsp_table.specs.Places.{living}
use Rattle.jsp_wait.proofs.keyed.first_at_places.Given as goal

abbrev pub invariant-places : goal.invariant-places
invariant-places g l = find (λ b. g.P.Test.is_passed l.test b) (living (take l.place-index l.places)) ≡ None
