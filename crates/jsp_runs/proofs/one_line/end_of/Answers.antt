use Rattle.jsp_floor.proofs.Ending.{rests_after}
use Rattle.jsp_runs.proofs.one_line.end_of.Goals as goal

pub returns-then-is_same : goal.returns-then-is_same
returns-then-is_same g c =
    let era = c.into_era-era.ensures in
    rests_after c.args.config.now c.into_era-era.result c.is_at_rest-rests.new.kept (c.is_of-is_same.ensures c.if-is_same.true) era.steps era.is_sealed c.holds.ensures (c.is_at_rest-rests.ensures c.if-rests.true)
