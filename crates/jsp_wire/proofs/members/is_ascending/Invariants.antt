use Rattle.std.proofs.Common.{◌≡◌, ℕ, ◌+◌, ◌<◌, get_or, Less}
use Rattle.jsp_wire.proofs.Placed.{Member, key_cmp}
use Rattle.jsp_wire.proofs.members.is_ascending.Given as goal

abbrev pub invariant-loop-later : goal.invariant-loop-later
invariant-loop-later l =
    (d : Member) (k : ℕ) → k + 1 < l.later → key_cmp (get_or l.members k d).0 (get_or l.members (k + 1) d).0 ≡ Less
