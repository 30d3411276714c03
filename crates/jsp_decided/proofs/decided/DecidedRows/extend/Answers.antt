use Rattle.std.proofs.Common.{ap, ◌∙◌}
use Rattle.jsp_decided.specs.Recording.{rows_after}
use Rattle.jsp_decided.proofs.RowsAfter.{ending_after}
use Rattle.jsp_decided.proofs.decided.DecidedRows.extend.Goals as goal

pub returns : goal.returns
returns c = let ds = c.args.self.now.recorded.items in ap (rows_after ds) c.extend.ensures ∙ ending_after c.args.number c.args.end ds c.args.self.now.stored
