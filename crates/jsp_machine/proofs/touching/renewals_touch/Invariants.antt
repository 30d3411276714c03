use Rattle.std.proofs.Common.{◌≡◌, flat_map, take}
use Rattle.jsp_model.specs.Lookup.{named}
use Rattle.jsp_model.specs.Touches.{lease_touches}
use Rattle.jsp_machine.proofs.touching.renewals_touch.Given as goal

abbrev pub invariant-leases : goal.invariant-leases
invariant-leases l = l.spaces.items ≡ flat_map (λ n. lease_touches l.state (named n.0)) (take l.lease-index l.leases)
