use Rattle.std.proofs.Common.{◌≡◌, take, fold}
use Rattle.jsp_model.specs.Changes.{renew_one}
use Rattle.jsp_requests.proofs.batch.accept_renew_all.Given as goal

abbrev pub invariant-leases : goal.invariant-leases
invariant-leases l = (l.state ≡ fold renew_one l.initial.state (take l.lease-index l.leases)) × (l.state.time ≡ l.initial.state.time)
