use Rattle.std.proofs.Common.{◌≡◌, take}
use Rattle.std.specs.List.{scan}
use Rattle.jsp_model.specs.Changes.{cancel_one}
use Rattle.jsp_model.specs.Answers.{cancel_answer}
use Rattle.jsp_requests.proofs.batch.cancel_answers.Given as goal

abbrev pub invariant-leases : goal.invariant-leases
invariant-leases l = l.answers ≡ scan cancel_one cancel_answer l.state (take l.place l.leases)
