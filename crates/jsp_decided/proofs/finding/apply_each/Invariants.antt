use Rattle.std.proofs.Common.{◌≡◌, take}
use Rattle.jsp_decided.specs.Recording.{rows_after}
use Rattle.jsp_decided.proofs.finding.apply_each.Given as goal

abbrev pub invariant-recorded : goal.invariant-recorded
invariant-recorded l = l.rows.items ≡ rows_after (take l.one-index l.recorded) l.fn.rows.items
