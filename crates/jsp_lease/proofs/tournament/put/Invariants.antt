use Rattle.std.proofs.Common.{◌≡◌, ◌≢◌, ℕ, ◌+◌, ◌<◌, length, drop, set}
use Rattle.jsp_lease.specs.Tournament.{IsWon}
use Rattle.jsp_lease.proofs.tournament.put.Given as goal

abbrev pub invariant-nodes : goal.invariant-nodes
invariant-nodes l = record {
  size : length l.nodes ≡ l.places + l.places;
  some : 0 < l.node;
  within : l.node < l.places + l.places;
  places : drop l.places l.nodes ≡ set (drop l.places l.fn.nodes) l.fn.place l.fn.item;
  won : (n : ℕ) → 0 < n → n < l.places → n + n ≢ l.node → n + n + 1 ≢ l.node → IsWon l.nodes n;
}

abbrev pub decreases-nodes : goal.decreases-nodes
decreases-nodes l = l.node
