use Rattle.std.proofs.Common.{◌≡◌, map, take}
use Rattle.jsp_model.specs.Lookup.{named}
use Rattle.jsp_requests.proofs.ask.numbers_of.Given as goal

abbrev pub invariant-leases : goal.invariant-leases
invariant-leases l = l.numbers.items ≡ map named (take l.lease-index l.leases)
