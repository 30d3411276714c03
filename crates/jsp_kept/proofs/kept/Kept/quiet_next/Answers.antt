use Rattle.jsp_kept.proofs.Turning.{quiet_answers, quiet_performs}
use Rattle.jsp_kept.proofs.kept.Kept.quiet_next.Goals as goal

pub returns-in-Err-clause-performs : goal.returns-in-Err-clause-performs
returns-in-Err-clause-performs g c = quiet_performs _ _ _ c.in-Err.stopped c.quiet_rest.result c.requires.none c.in-Err.ensures.performs c.quiet_rest.ensures.performs

pub returns-in-Err-clause-answers : goal.returns-in-Err-clause-answers
returns-in-Err-clause-answers g c =
    quiet_answers _ _ _ c.in-Err.stopped c.quiet_rest.result c.settle_in_era.ensures.steady c.requires.none c.in-Err.ensures.performs c.in-Err.ensures.answers c.quiet_rest.ensures.performs c.quiet_rest.ensures.full c.quiet_rest.ensures.answers
