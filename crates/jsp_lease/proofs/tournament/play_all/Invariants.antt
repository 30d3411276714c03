use Rattle.std.proofs.Common.{◌≡◌, ℕ, ◌+◌, ◌<◌, ◌≤◌, length, drop}
use Rattle.jsp_lease.specs.Tournament.{IsWon}
use Rattle.jsp_lease.proofs.tournament.play_all.Given as goal

abbrev pub invariant-nodes : goal.invariant-nodes
invariant-nodes l = record {
  size : length l.nodes ≡ l.places + l.places;
  within : l.node ≤ l.places;
  places : drop l.places l.nodes ≡ drop l.places l.initial.nodes;
  won : (n : ℕ) → 0 < n → l.node ≤ n → n < l.places → IsWon l.nodes n;
}

abbrev pub decreases-nodes : goal.decreases-nodes
decreases-nodes l = l.node
