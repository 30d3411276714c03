use Rattle.std.proofs.Common.{List, not, eqb, sym, subst, rules}
use Rattle.std.specs.Prelude.{filter}
use Rattle.std.proofs.lemmas.Fn.{filter_same}
use Rattle.jsp_model.specs.declared.state.Row.{Row}
use Rattle.jsp_index.specs.declared.shape.Shape.{Shape}
use Rattle.jsp_index.specs.Shapes.{AreShaped}
use Rattle.jsp_index.proofs.Shaped.{shaped_left}
use Rattle.jsp_index.proofs.shapes.forget_at.Goals as goal

pub returns : goal.returns
returns c seed rows h =
    subst (λ (w : List Shape). AreShaped seed w (filter (λ (r : Row). not (eqb r.space c.args.space)) rows)) (sym (filter_same _ _ _ (λ x b f r. search rules) _ _ c.retain.ensures.filtered))
    (shaped_left seed (λ (s : Shape). not (eqb s.space c.args.space)) (λ (r : Row). not (eqb r.space c.args.space)) c.args.shapes.now.items rows h)
