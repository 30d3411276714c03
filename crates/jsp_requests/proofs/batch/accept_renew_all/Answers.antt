use Rattle.std.proofs.Common.{◌∙◌, arith}
use Rattle.jsp_model.specs.Changes.{renew_one}
use Rattle.jsp_state.proofs.Scanning.{fold_step}
use Rattle.jsp_requests.proofs.batch.accept_renew_all.Goals as goal

pub renew_one-requires : goal.renew_one-requires
renew_one-requires c = omega (arith, c.leases.invariant.1, c.requires)

pub leases-preserved : goal.leases-preserved
leases-preserved c =
    (fold_step renew_one c.args.state.now c.leases.state c.renew_one.new.state c.args.leases.now c.leases.lease-index _ c.leases-test.true c.leases.invariant.0 c.renew_one.ensures.made, c.renew_one.ensures.time ∙ c.leases.invariant.1)
