use Rattle.std.proofs.Common.{◌≡◌, ◌++◌, map, take, drop}
use Rattle.jsp_notify.specs.News.{hearing}
use Rattle.jsp_notify.proofs.registrations.tell_copies.Given as goal

abbrev pub invariant-copies : goal.invariant-copies
invariant-copies l = l.copies ≡ map (hearing l.news) (take l.place l.initial.copies) ++ drop l.place l.initial.copies
