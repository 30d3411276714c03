use Rattle.std.proofs.Common.{◌≡◌, map, length}
use Rattle.jsp_notify.specs.News.{hearing}
use Rattle.jsp_notify.proofs.untold.drop_told.Given as goal

abbrev pub invariant-news : goal.invariant-news
invariant-news l = map (hearing l.news) l.heard ≡ map (hearing l.fn.news) l.heard

abbrev pub decreases-news : goal.decreases-news
decreases-news l = length l.news
