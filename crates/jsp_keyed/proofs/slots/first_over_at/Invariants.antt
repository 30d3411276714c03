use Rattle.std.proofs.Common.{◌≡◌, ◌≤◌, map, drop, length}
use Rattle.std.specs.Prelude.{filter}
use Rattle.jsp_lease.specs.Due.{first_item, over_by}
use Rattle.jsp_table.specs.Places.{living}
use Rattle.jsp_keyed.specs.Kept.{item_of}
use Rattle.jsp_keyed.proofs.slots.first_over_at.Given as goal

abbrev pub invariant-places : goal.invariant-places
invariant-places g l = record {
  within : l.place ≤ length l.places;
  first : l.first ≡ first_item (over_by l.time (map (item_of g.K.Numbering.number_of g.K.Keying.end_of g.K.Keying.rank_of) (filter (g.P.Test.is_passed l.test) (living (drop l.place l.places)))));
}

abbrev pub decreases-places : goal.decreases-places
decreases-places g l = l.place
