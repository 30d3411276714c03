use Rattle.jsp_line.proofs.Turning.{ends_bound}
use Rattle.jsp_line.proofs.shared.Shared.read_turns.Goals as goal

pub returns-clause-reads : goal.returns-clause-reads
returns-clause-reads g c = λ start n on. ends_bound _ start _ _ _ n _ (c.turns.invariant.2 start n on)

pub returns-in-Some-clause-bound : goal.returns-in-Some-clause-bound
returns-in-Some-clause-bound g c = λ is. absurd (c.in-Some.ensures.not_bound is)
