use Rattle.std.proofs.Common.{◌≡◌, ℕ, true, map}
use Rattle.jsp_notify.specs.News.{all_told, hearing, still_to_tell}
use Rattle.jsp_notify.proofs.untold.tell_all_in.Given as goal

abbrev pub invariant-rows : goal.invariant-rows
invariant-rows l = (map (hearing l.news) l.heard ≡ map (hearing l.fn.news) l.fn.heard) × ((k : ℕ) → all_told l.fn.news k ≡ true → all_told l.news k ≡ true)

abbrev pub decreases-rows : goal.decreases-rows
decreases-rows l = still_to_tell l.news l.space
