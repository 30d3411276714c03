use Rattle.std.proofs.Common.{[]}
use Rattle.std.proofs.lemmas.Result.{IfOk-weaker}
use Rattle.jsp_kept.proofs.Growing.{grows_then}
use Rattle.jsp_kept.proofs.Passing.{err_then}
use Rattle.jsp_kept.proofs.kept.Kept.hand_out.Goals as goal

pub returns-clause-steps : goal.returns-clause-steps
returns-clause-steps g c = IfOk-weaker c.hand_out_in_era.result _ _ (λ v q. grows_then _ _ _ [] _ c.make_place.ensures.grows q) c.hand_out_in_era.ensures.steps

pub returns-clause-err : goal.returns-clause-err
returns-clause-err g c = err_then c.hand_out_in_era.result c.hand_out_in_era.ensures.err (λ p. (rw p.0 c.make_place.ensures.grows, rw p.0 c.make_place.ensures.outs, p.1))
