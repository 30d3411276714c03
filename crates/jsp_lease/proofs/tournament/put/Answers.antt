use Rattle.std.proofs.Common.{◌≡◌, ◌+◌, ◌*◌, ◌/◌, ◌<◌, ◌∙◌, arith}
use Rattle.std.proofs.lemmas.List.{drop-set-lt, drop-set-add, length-set}
use Rattle.jsp_lease.specs.Tournament.{node_at, earlier}
use Rattle.jsp_lease.proofs.Playing.{played, won_still}
use Rattle.jsp_lease.proofs.tournament.put.Goals as goal

pub nodes-init : goal.nodes-init
nodes-init c =
    let nodes = c.args.nodes.now in
    let k = c.args.places + c.args.place in
    record {
      size = omega (arith, c.requires.tournament.size, length-set nodes k c.args.item);
      some = omega arith;
      within = omega arith;
      places = drop-set-add c.args.places nodes c.args.place c.args.item;
      won = λ n a b d e. won_still nodes k n c.args.item (λ f. omega arith) d e (c.requires.tournament.won n a b);
    }

pub nodes-preserved : goal.nodes-preserved
nodes-preserved c =
    let nodes = c.nodes.nodes in
    let k = c.nodes.node / 2 in
    let doubled : 2 * k ≡ k + k = omega arith in
    let some : 0 < k = omega arith in
    let half : k < c.args.places = omega arith in
    let is : c.earlier.result ≡ earlier (node_at nodes (k + k)) (node_at nodes (k + k + 1)) = c.earlier.ensures ∙ rw doubled in
    record {
      size = omega (arith, c.nodes.invariant.size, length-set nodes k c.earlier.result);
      some = some;
      within = omega arith;
      places = drop-set-lt c.args.places nodes k c.earlier.result half ∙ c.nodes.invariant.places;
      won = λ n a b d e. played nodes k n c.earlier.result some (omega (arith, c.nodes.invariant.size)) is d e (λ f. c.nodes.invariant.won n a b (λ g. omega arith) (λ g. omega arith));
    }
