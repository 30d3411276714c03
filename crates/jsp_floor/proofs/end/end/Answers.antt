use Rattle.jsp_floor.proofs.Ending.{rests_after}
use Rattle.jsp_floor.proofs.end.end.Goals as goal

pub returns-clause-rests : goal.returns-clause-rests
returns-clause-rests g c =
    let era = c.into_era.ensures in
    rests_after c.args.config.now c.into_era.result c.settle_all.new.kept (c.is_of.ensures c.if-not-is_of.false) era.steps era.is_sealed c.holds.ensures c.in_ok-settle_all.ensures.rest

pub returns-clause-ends : goal.returns-clause-ends
returns-clause-ends g c =
    let era = c.into_era.ensures in
    record { last = c.settle_all.new.kept; settles = c.settle_all.ensures.settles; steps = era.steps; is_sealed = era.is_sealed }
