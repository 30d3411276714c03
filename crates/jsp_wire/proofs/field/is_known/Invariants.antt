use Rattle.std.proofs.Common.{◌≡◌, map, drop}
use Rattle.jsp_wire.specs.Parts.{is_known}
use Rattle.jsp_wire.proofs.field.is_known.Given as goal

abbrev pub invariant-loop-known : goal.invariant-loop-known
invariant-loop-known l =
    is_known (map (λ n. n.now) (drop l.known-index l.names)) l.name ≡ is_known (map (λ n. n.now) l.names) l.name
