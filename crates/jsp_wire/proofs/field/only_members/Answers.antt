use Rattle.std.proofs.Common.{◌≡◌, false, map, arith}
use Rattle.jsp_wire.specs.Parts.{is_known}
use Rattle.jsp_wire.proofs.Placed.{unknown_key, known_keys}
use Rattle.jsp_wire.proofs.field.only_members.Goals as goal

pub returns-then-not-is_known : goal.returns-then-not-is_known
returns-then-not-is_known c =
    let names = map (λ n. n.now) c.args.names.now in
    let m = c.loop-name-item.result in
    let other : is_known names m.0.now ≡ false = grind arith in
    unknown_key names c.args.members.now c.loop-name.name-index m c.loop-name-test.true c.loop-name-item.is other c.loop-name.invariant

pub returns : goal.returns
returns c = known_keys (map (λ n. n.now) c.args.names.now) c.args.members.now c.loop-name.name-index c.loop-name-test.false c.loop-name.invariant
