use Rattle.jsp_floor.specs.Doors.{MayCome}
use Rattle.jsp_floor.proofs.Coming.{all_more}
use Rattle.jsp_floor.proofs.served.Served.add_report.Goals as goal

pub invariant_of-self-else-is_err : goal.invariant_of-self-else-is_err
invariant_of-self-else-is_err g c =
    all_more (MayCome g.D.Door.gives g.R.Read.remaining g.W.Write.contents) c.self.inside.reports.items c.push.new.self.items c.args.report _ c.push.ensures.items c.self.invariant c.requires
