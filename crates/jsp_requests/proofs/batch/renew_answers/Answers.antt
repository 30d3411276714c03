use Rattle.std.proofs.Common.{arith}
use Rattle.std.proofs.lemmas.List.{take_all}
use Rattle.jsp_requests.proofs.Batching.{all_renewed}
use Rattle.jsp_requests.proofs.batch.renew_answers.Goals as goal

pub returns : goal.returns
returns c =
    all_renewed c.args.state.now c.args.leases.now c.leases.answers (rw (take_all c.leases.lease-index c.args.leases.now (omega arith)) at c.leases.invariant)
