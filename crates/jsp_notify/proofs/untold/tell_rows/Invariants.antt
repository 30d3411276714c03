use Rattle.std.proofs.Common.{◌≡◌, map}
use Rattle.jsp_notify.specs.News.{hearing, still_to_tell}
use Rattle.jsp_notify.proofs.untold.tell_rows.Given as goal

abbrev pub invariant-rows : goal.invariant-rows
invariant-rows l = map (hearing l.news) l.heard ≡ map (hearing l.fn.news) l.fn.heard

abbrev pub decreases-rows : goal.decreases-rows
decreases-rows l = still_to_tell l.news l.space
