use Rattle.std.proofs.Common.{◌≡◌, take}
use Rattle.jsp_requests.specs.Telling.{all_refused}
use Rattle.jsp_requests.proofs.telling.refuse_each.Given as goal

abbrev pub invariant-askers : goal.invariant-askers
invariant-askers l = l.told.items ≡ all_refused l.refusal (take l.asker-index l.askers)
