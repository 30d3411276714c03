use Rattle.std.proofs.Common.{◌≡◌, take}
use Rattle.jsp_requests.specs.Telling.{commits_answered}
use Rattle.jsp_requests.proofs.telling.answer_each.Given as goal

abbrev pub invariant-commits : goal.invariant-commits
invariant-commits l = l.told.items ≡ commits_answered l.x l.done (take l.commit-index l.commits)
