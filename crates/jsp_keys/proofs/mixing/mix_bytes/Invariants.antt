use Rattle.std.proofs.Common.{◌≡◌, length}
use Rattle.jsp_keys.specs.Keys.{mix_all}
use Rattle.jsp_keys.proofs.mixing.mix_bytes.Given as goal

abbrev pub invariant-bytes : goal.invariant-bytes
invariant-bytes l = mix_all l.mixed l.left ≡ mix_all l.fn.key l.fn.bytes

abbrev pub decreases-bytes : goal.decreases-bytes
decreases-bytes l = length l.left
