use Rattle.std.proofs.Common.{◌≡◌, List, ◌∷◌, ◌++◌, sym, subst, inl, inr}
use Rattle.jsp_table.proofs.Finding.{everywhere}
use Rattle.jsp_index.specs.declared.shape.Shape.{Shape}
use Rattle.jsp_index.specs.Shapes.{IsNamedBy, AreShaped}
use Rattle.jsp_index.proofs.Shaped.{shaped_push, shaped_set}
use Rattle.jsp_index.proofs.shapes.begin.Goals as goal

pub returns-then-len-lt-MOST : goal.returns-then-len-lt-MOST
returns-then-len-lt-MOST c seed rows h = elim c.push.ensures [
  | inl e ↦ subst (λ (w : List Shape). AreShaped seed w rows) (sym e) (shaped_push seed c.args.shapes.now.items rows c.in-Ok.shape h (everywhere (λ row. IsNamedBy seed row c.in-Ok.shape) rows (λ row. c.in-Ok.ensures seed row)))
  | inr e ↦ subst (λ (w : List Shape). AreShaped seed w rows) (sym e) h
]

pub returns-then-place-len : goal.returns-then-place-len
returns-then-place-len c seed rows h = shaped_set seed c.args.shapes.now.items rows c.longest_unasked-place.result c.in-Ok.shape h (everywhere (λ row. IsNamedBy seed row c.in-Ok.shape) rows (λ row. c.in-Ok.ensures seed row))
