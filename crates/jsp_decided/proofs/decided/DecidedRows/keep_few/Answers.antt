use Rattle.jsp_decided.proofs.RowsAfter.{one_fewer}
use Rattle.jsp_decided.proofs.decided.DecidedRows.keep_few.Goals as goal

pub oldest-smaller : goal.oldest-smaller
oldest-smaller c = one_fewer c.in-Some.space c.oldest.self.recorded.items c.apply_first.new.self.recorded.items c.in-Some.ensures c.apply_first.ensures.less
