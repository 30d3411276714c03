use Rattle.std.proofs.Common.{◌≡◌, ◌≤◌, map, length, take}
use Rattle.std.specs.Prelude.{filter}
use Rattle.jsp_keys.specs.Keys.{mix}
use Rattle.jsp_keyed.specs.Several.{is_longer}
use Rattle.jsp_keyed.proofs.lists.count_longer.Given as goal

abbrev pub invariant-places : goal.invariant-places
invariant-places l = record {
  count : l.longer ≡ length (filter (is_longer l.lists.hints.now l.limit) (take l.place (map (λ k. mix k l.lists.count) l.lists.values.now)));
  few : l.longer ≤ l.place;
}
