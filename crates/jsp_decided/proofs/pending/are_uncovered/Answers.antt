use Rattle.std.proofs.Common.{◌≡◌, false, sym, ◌∙◌}
use Rattle.std.proofs.lemmas.Bool.{OnTrue_from}
use Rattle.jsp_model.specs.declared.state.Row.{Row}
use Rattle.jsp_decided.specs.Recording.{covers}
use Rattle.jsp_decided.proofs.Sparing.{every, none_about, none_of_all}
use Rattle.jsp_decided.proofs.pending.are_uncovered.Goals as goal

pub returns-then-is_empty : goal.returns-then-is_empty
returns-then-is_empty c =
    let ds = c.args.recorded.now in
    OnTrue_from c.is_empty.result _ (λ is. every (λ (r : Row). covers ds r.space ≡ false) (λ r. none_about ds r.space (sym c.is_empty.ensures ∙ is)) c.args.rows.now)

pub returns-else-is_empty : goal.returns-else-is_empty
returns-else-is_empty c = OnTrue_from c.is_each_uncovered.result _ (λ is. none_of_all (λ (r : Row). covers c.args.recorded.now r.space) c.args.rows.now (sym c.is_each_uncovered.ensures ∙ is))
