use Rattle.jsp_model.specs.Changes.{cancel_one}
use Rattle.jsp_state.proofs.Scanning.{fold_step}
use Rattle.jsp_requests.proofs.batch.accept_cancel_all.Goals as goal

pub leases-preserved : goal.leases-preserved
leases-preserved c = fold_step cancel_one c.args.state.now c.leases.state c.cancel_one.new.state c.args.leases.now c.leases.lease-index _ c.leases-test.true c.leases.invariant c.cancel_one.ensures
