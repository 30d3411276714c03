use Rattle.std.proofs.Common.{◌∙◌}
use Rattle.jsp_sight.specs.Rows.{row_end}
use Rattle.jsp_sight.proofs.Earliest.{first_is_sooner}
use Rattle.jsp_scan.proofs.scanned.first_over.Goals as goal

pub returns : goal.returns
returns c = c.last_to_first.ensures ∙ first_is_sooner c.args.time row_end c.args.rows.now
