use Rattle.std.proofs.Common.{◌≡◌, false, not, sym, ◌∙◌}
use Rattle.std.proofs.lemmas.Bool.{OnTrue_from, not-true}
use Rattle.jsp_model.specs.declared.state.Row.{Row}
use Rattle.jsp_decided.specs.Recording.{covers}
use Rattle.jsp_decided.proofs.Sparing.{every, none_about, absent, one_spared}
use Rattle.jsp_decided.proofs.pending.is_number_uncovered.Goals as goal

pub returns-then-is_empty : goal.returns-then-is_empty
returns-then-is_empty c =
    let ds = c.args.recorded.now in
    every (λ (r : Row). r.number ≡ c.args.number → covers ds r.space ≡ false) (λ r same. none_about ds r.space (sym c.is_empty.ensures ∙ c.if-is_empty.true)) c.args.stored.now

pub returns-in-None : goal.returns-in-None
returns-in-None c = absent (λ (r : Row). covers c.args.recorded.now r.space ≡ false) c.args.number c.args.stored.now (sym c.in-None.ensures)

pub returns-in-Some : goal.returns-in-Some
returns-in-Some c =
    let ds = c.args.recorded.now in
    OnTrue_from (not c.covers.result) _ (λ is. one_spared ds c.args.number c.args.stored.now c.in-Some.row.now c.places.ensures.numbered.rising (sym c.in-Some.ensures) (sym c.covers.ensures ∙ not-true c.covers.result is))
