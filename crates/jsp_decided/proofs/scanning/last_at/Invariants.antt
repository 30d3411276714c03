use Rattle.std.proofs.Common.{◌≡◌, ◌≤◌, length, take, None}
use Rattle.std.specs.List.{last_or, filter_map}
use Rattle.jsp_decided.specs.Left.{number_passed}
use Rattle.jsp_decided.proofs.scanning.last_at.Given as goal

abbrev pub invariant-places : goal.invariant-places
invariant-places g l = record {
  found : l.last ≡ last_or None (filter_map (number_passed (g.P.Test.is_passed l.test)) (take l.place-index l.places));
  counted : l.count ≡ length (filter_map (number_passed (g.P.Test.is_passed l.test)) (take l.place-index l.places));
  few : l.count ≤ l.most;
}
