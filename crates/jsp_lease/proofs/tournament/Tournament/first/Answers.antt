use Rattle.std.proofs.Common.{◌≡◌, ◌<◌, ◌∙◌, ap, arith, length}
use Rattle.std.proofs.lemmas.Grind.{common_steps}
use Rattle.jsp_lease.specs.Due.{first_item}
use Rattle.jsp_lease.specs.Tournament.{living, node_at}
use Rattle.jsp_lease.proofs.Winning.{top_first}
use Rattle.jsp_lease.proofs.tournament.Tournament.first.Goals as goal

pub returns : goal.returns
returns c =
    let nodes = c.self.inside.nodes.items in
    let lt : 1 < length nodes = omega (arith, c.self.invariant.size) in
    let is : c.index.result.now ≡ node_at nodes 1 = grind (arith, common_steps) in
    is ∙ (top_first nodes c.self.inside.places c.self.invariant (omega arith) ∙ ap (λ w. first_item (living w)) c.self.view_is)
