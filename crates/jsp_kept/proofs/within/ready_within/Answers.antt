use Rattle.std.proofs.Common.{refl}
use Rattle.jsp_kept.proofs.Stopping.{part_readied, readied_long}
use Rattle.jsp_kept.proofs.within.ready_within.Goals as goal

pub returns-clause-long : goal.returns-clause-long
returns-clause-long g c =
    part_readied _ _ _ _ c.args.most _ _ c.make_ready_beside-result.result c.len.ensures refl refl
    (readied_long _ _ c.args.most c.args.limit _ _ c.make_ready_beside-result.result c.end_of_part.ensures.long c.bound.ensures.bound c.make_ready_beside-result.ensures.why)
