use Rattle.std.proofs.Common.{◌≡◌, List, length, drop, sym, subst, arith, rules}
use Rattle.std.proofs.lemmas.Grind.{common_steps}
use Rattle.jsp_index.specs.declared.shape.Shape.{Shape}
use Rattle.jsp_index.specs.Shapes.{IsNamedByAll}
use Rattle.jsp_index.proofs.Shaped.{front}
use Rattle.jsp_index.proofs.shapes.add_row.Goals as goal

pub returns-clause-keeps : goal.returns-clause-keeps
returns-clause-keeps c r h =
    let new = c.add_to_all.new.shapes in
    let before : IsNamedByAll c.args.seed c.as_mut_slice.result.now r = search rules in
    let after : IsNamedByAll c.args.seed new r = c.add_to_all.ensures.keeps r before in
    let same : length new ≡ c.args.shapes.now.len = first_of (omega arith, search rules, grind (arith, common_steps)) in
    subst (λ (w : List Shape). IsNamedByAll c.args.seed w r) (sym (front c.args.shapes.now.len new (drop (length new) c.args.shapes.now.items) same)) after
