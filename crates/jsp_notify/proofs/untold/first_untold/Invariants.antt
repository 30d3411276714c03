use Rattle.std.proofs.Common.{◌≡◌, ◌≤◌, ◌-◌, true, length, take}
use Rattle.jsp_notify.specs.News.{all_told}
use Rattle.jsp_notify.proofs.untold.first_untold.Given as goal

abbrev pub invariant-news : goal.invariant-news
invariant-news l = (l.place ≤ length l.fn.news) × (all_told (take l.place l.fn.news) l.fn.space ≡ true)

abbrev pub decreases-news : goal.decreases-news
decreases-news l = length l.fn.news - l.place
