use Rattle.std.proofs.Common.{refl}
use Rattle.jsp_kept.proofs.Stopping.{part_stopped, stopped_long}
use Rattle.jsp_kept.proofs.within.finish_within.Goals as goal

pub returns-clause-long : goal.returns-clause-long
returns-clause-long g c =
    part_stopped _ _ _ _ c.args.most _ _ c.finish-result.result c.len.ensures refl refl
    (stopped_long _ _ c.args.most c.args.limit _ _ c.finish-result.result c.end_of_part.ensures.long c.bound.ensures.bound c.finish-result.ensures.why)
