use Rattle.std.proofs.Common.{◌≡◌, ◌==◌, not, eqb, ap, subst, ◌∙◌}
use Rattle.std.specs.Prelude.{filter}
use Rattle.jsp_model.specs.declared.state.Row.{Row}
use Rattle.jsp_keyed.proofs.Clearing.{first_is_in, others_same}
use Rattle.jsp_index.specs.Finding.{number}
use Rattle.jsp_index.proofs.hinted.HintedRows.remove_first.Goals as goal

pub returns-in-Some : goal.returns-in-Some
returns-in-Some c =
    let n = c.in-Some.number in
    let rows = c.self.inside.rows in
    let goes : Row → _ = λ (r : Row). r.space == c.args.space in
    let one = first_is_in number goes rows n c.in-Some.ensures.numbered.rising c.in-Some.ensures.found in
    let same = others_same number goes n rows one.kinds in
    ap (filter (λ r. not (goes r))) c.remove.ensures
    ∙ subst (λ w. filter (λ r. not (goes r)) (filter (λ (r : Row). not (eqb r.number n)) w) ≡ filter (λ r. not (goes r)) w) c.self.view_is same
