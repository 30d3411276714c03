use Rattle.jsp_line.proofs.Turning.{ends_reading, goes_turn, no_fault, not_at_bound}
use Rattle.jsp_line.proofs.shared.Shared.turn.Goals as goal

pub returns-in-Some-clause-reads : goal.returns-in-Some-clause-reads
returns-in-Some-clause-reads g c = λ start n on. ends_reading _ start _ _ _ _ _ _ c.in-Some.ended n _ c.in-Some.ensures.reads on

pub returns-clause-reads : goal.returns-clause-reads
returns-clause-reads g c = λ start n on.
    goes_turn _ start _ _ _ _ _ _ _ _ c.act_all-ended.result n _ _ c.in_default.ensures.reads c.act_all-ended.ensures.acts (λ all kept. kept) (λ lost. lost) on

pub returns-clause-faults : goal.returns-clause-faults
returns-clause-faults g c = no_fault c.act_all-ended.result _ _ c.act_all-ended.ensures.early c.in_default.ensures.faults

pub returns-clause-not_bound : goal.returns-clause-not_bound
returns-clause-not_bound g c = not_at_bound c.act_all-ended.result c.act_all-ended.ensures.early
