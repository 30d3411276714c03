use Rattle.std.proofs.Common.{◌≡◌, take}
use Rattle.jsp_model.specs.Requests.{kinded}
use Rattle.jsp_entries.proofs.declare.kinded.Given as goal

abbrev pub invariant-fields : goal.invariant-fields
invariant-fields l = l.found ≡ kinded (take l.field-index l.fields)
