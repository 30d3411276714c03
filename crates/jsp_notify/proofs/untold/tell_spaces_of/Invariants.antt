use Rattle.std.proofs.Common.{◌≡◌, true, map, take}
use Rattle.std.specs.List.{list_all}
use Rattle.jsp_notify.specs.News.{all_told, hearing}
use Rattle.jsp_notify.proofs.untold.tell_spaces_of.Given as goal

abbrev pub invariant-rows : goal.invariant-rows
invariant-rows l = (map (hearing l.news) l.heard ≡ map (hearing l.fn.news) l.fn.heard) × (list_all (λ row. all_told l.news row.space) (take l.row-index l.rows) ≡ true)
