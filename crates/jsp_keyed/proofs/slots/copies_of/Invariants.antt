use Rattle.std.proofs.Common.{◌≡◌, take}
use Rattle.jsp_table.specs.Places.{living}
use Rattle.jsp_keyed.proofs.slots.copies_of.Given as goal

abbrev pub invariant-places : goal.invariant-places
invariant-places g l = l.copies ≡ living (take l.place-index l.places)
