use Rattle.std.proofs.Common.{◌≡◌, map, take}
use Rattle.jsp_table.specs.Places.{living}
use Rattle.jsp_keyed.specs.Kept.{item_of}
use Rattle.jsp_keyed.proofs.ends.living_ends.Given as goal

abbrev pub invariant-places : goal.invariant-places
invariant-places g l = l.items.items ≡ map (item_of g.K.Numbering.number_of g.K.Keying.end_of g.K.Keying.rank_of) (living (take l.place-index l.places))
