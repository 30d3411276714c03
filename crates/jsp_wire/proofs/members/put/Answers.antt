use Rattle.std.proofs.Common.{[], ◌∷◌, ◌++◌, ap, ◌∙◌}
use Rattle.jsp_wire.specs.Tree.{members_view}
use Rattle.jsp_wire.proofs.Placed.{members_view-push}
use Rattle.jsp_wire.proofs.members.put.Goals as goal

pub returns : goal.returns
returns c =
    ap members_view (c.in_ok-push.ensures.items ∙ ap (λ ms. ms ++ (c.args.key, c.args.tree) ∷ []) c.in_ok-make_room.ensures)
    ∙ members_view-push c.args.members.now.items (c.args.key, c.args.tree)
