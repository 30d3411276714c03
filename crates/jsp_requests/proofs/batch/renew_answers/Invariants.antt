use Rattle.std.proofs.Common.{◌≡◌, map, take}
use Rattle.jsp_model.specs.Answers.{renew_answer}
use Rattle.jsp_requests.proofs.batch.renew_answers.Given as goal

abbrev pub invariant-leases : goal.invariant-leases
invariant-leases l = l.answers ≡ map (renew_answer l.state) (take l.lease-index l.leases)
