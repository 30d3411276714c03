use Rattle.jsp_kept.proofs.Turning.{votes_then}
use Rattle.jsp_kept.proofs.kept.Kept.settle.Goals as goal

pub returns-in-None-clause-performs : goal.returns-in-None-clause-performs
returns-in-None-clause-performs g c = votes_then _ _ _ c.quiet_next.result c.make_place.ensures.prepares c.quiet_next.ensures.performs

pub returns-in-Some-clause-performs : goal.returns-in-Some-clause-performs
returns-in-Some-clause-performs g c = votes_then _ _ _ c.vote.result c.make_place.ensures.prepares c.vote.ensures.performs

pub returns-in-Some-clause-answers : goal.returns-in-Some-clause-answers
returns-in-Some-clause-answers g c = rw (← c.make_place.ensures.state) c.vote.ensures.answers
