use Rattle.std.proofs.Common.{◌≡◌, map, drop, Some}
use Rattle.jsp_wire.proofs.Placed.{all_known}
use Rattle.jsp_wire.proofs.field.only_members.Given as goal

abbrev pub invariant-loop-name : goal.invariant-loop-name
invariant-loop-name l =
    let names = map (λ n. n.now) l.names in
    all_known names (drop l.name-index l.members) (Some tt) ≡ all_known names l.members (Some tt)
