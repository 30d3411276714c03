use Rattle.std.proofs.Common.{◌≡◌, ◌≤◌, map, drop, length}
use Rattle.std.specs.Prelude.{filter}
use Rattle.jsp_lease.specs.Due.{first_item, over_by}
use Rattle.jsp_keyed.specs.Kept.{item_of}
use Rattle.jsp_list.proofs.scanned.first_over.Given as goal

abbrev pub invariant-places : goal.invariant-places
invariant-places g l = record {
  within : l.place ≤ length l.things;
  first : l.first ≡ first_item (over_by l.time (map (item_of g.K.Numbering.number_of g.K.Keying.end_of g.K.Keying.rank_of) (filter (g.P.Test.is_passed l.test) (drop l.place l.things))));
}

abbrev pub decreases-places : goal.decreases-places
decreases-places g l = l.place
