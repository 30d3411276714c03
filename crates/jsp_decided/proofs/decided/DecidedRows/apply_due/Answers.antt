use Rattle.jsp_decided.proofs.RowsAfter.{others_fewer}
use Rattle.jsp_decided.proofs.decided.DecidedRows.apply_due.Goals as goal

pub spaces-smaller : goal.spaces-smaller
spaces-smaller c = others_fewer c.in-Some.space c.spaces.self.recorded.items c.apply_in.new.self.recorded.items c.in-Some.ensures c.apply_in.ensures.others
