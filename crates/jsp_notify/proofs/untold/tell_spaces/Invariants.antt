use Rattle.std.proofs.Common.{◌≡◌, true, map, take}
use Rattle.std.specs.List.{list_all}
use Rattle.jsp_notify.specs.News.{all_told, hearing}
use Rattle.jsp_notify.proofs.untold.tell_spaces.Given as goal

abbrev pub invariant-spaces : goal.invariant-spaces
invariant-spaces l = (map (hearing l.news) l.heard ≡ map (hearing l.fn.news) l.fn.heard) × (list_all (all_told l.news) (take l.space-index l.spaces) ≡ true)
