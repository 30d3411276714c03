use Rattle.std.proofs.Common.{◌≡◌, map}
use Rattle.jsp_notify.specs.News.{hearing}
use Rattle.jsp_notify.proofs.untold.tell_a_few.Given as goal

abbrev pub invariant-parts : goal.invariant-parts
invariant-parts l = map (hearing l.news) l.heard ≡ map (hearing l.fn.news) l.fn.heard
