use Rattle.std.proofs.Common.{◌∙◌, ap}
use Rattle.std.specs.Prelude.{not}
use Rattle.jsp_sight.specs.Rows.{offered}
use Rattle.jsp_scan.proofs.Available.{none_is}
use Rattle.jsp_scan.proofs.scanned.has_none.Goals as goal

pub returns : goal.returns
returns c = ap not c.has_one.ensures ∙ none_is _ (offered c.args.classes.now c.args.blocked.now) c.args.rows.now
