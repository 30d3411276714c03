use Rattle.std.proofs.Common.{◌++◌, ◌∷◌, [], ◌∙◌, ap}
use Rattle.jsp_requests.proofs.Batching.{cancelled_more}
use Rattle.jsp_requests.proofs.batch.cancel_answers.Goals as goal

pub leases-preserved : goal.leases-preserved
leases-preserved c =
    cancelled_more c.args.state.now c.args.leases.now c.leases.place _ c.leases.answers c.push.new.self c.requires c.leases-test.true c.leases.invariant (c.in_ok-push.ensures.ok ∙ ap (λ y. c.leases.answers ++ y ∷ []) c.cancellation.ensures)
