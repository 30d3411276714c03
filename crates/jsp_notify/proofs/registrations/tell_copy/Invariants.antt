use Rattle.std.proofs.Common.{◌≡◌, take}
use Rattle.jsp_notify.specs.News.{hearing}
use Rattle.jsp_notify.proofs.registrations.tell_copy.Given as goal

abbrev pub invariant-news : goal.invariant-news
invariant-news l = l.copy ≡ hearing (take l.one-index l.news) l.initial.copy
