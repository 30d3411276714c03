use Rattle.std.proofs.Common.{◌∙◌}
use Rattle.jsp_sight.specs.Rows.{offered}
use Rattle.jsp_scan.proofs.Available.{among_is}
use Rattle.jsp_scan.proofs.scanned.may_be_given.Goals as goal

pub returns : goal.returns
returns c = c.is_among.ensures ∙ among_is c.args.number (offered c.args.classes.now c.args.blocked.now) c.args.rows.now
