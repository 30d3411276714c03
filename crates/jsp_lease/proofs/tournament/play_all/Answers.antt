use Rattle.std.proofs.Common.{◌≡◌, ◌+◌, ◌*◌, ◌-◌, ◌∙◌, arith}
use Rattle.std.proofs.lemmas.List.{drop-set-lt, length-set}
use Rattle.jsp_lease.specs.Tournament.{node_at, earlier}
use Rattle.jsp_lease.proofs.Playing.{played}
use Rattle.jsp_lease.proofs.tournament.play_all.Goals as goal

pub nodes-preserved : goal.nodes-preserved
nodes-preserved c =
    let nodes = c.nodes.nodes in
    let k = c.nodes.node - 1 in
    let doubled : 2 * k ≡ k + k = omega arith in
    let is : c.earlier.result ≡ earlier (node_at nodes (k + k)) (node_at nodes (k + k + 1)) = c.earlier.ensures ∙ rw doubled in
    record {
      size = omega (arith, c.nodes.invariant.size, length-set nodes k c.earlier.result);
      within = omega arith;
      places = drop-set-lt c.args.places nodes k c.earlier.result (omega arith) ∙ c.nodes.invariant.places;
      won = λ n a b lt. played nodes k n c.earlier.result (omega arith) (omega (arith, c.nodes.invariant.size)) is (λ e. omega arith) (λ e. omega arith) (λ ne. c.nodes.invariant.won n a (omega arith) lt);
    }
