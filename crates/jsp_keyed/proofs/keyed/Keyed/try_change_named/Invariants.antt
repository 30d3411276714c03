use Rattle.std.proofs.Common.{◌≡◌, ◌-◌, ◌^◌, map}
use Rattle.jsp_keyed.proofs.Sweeping.{up_to}
use Rattle.jsp_keyed.proofs.keyed.Keyed.try_change_named.Given as goal

abbrev pub invariant-things : goal.invariant-things
invariant-things g l = l.self ≡ map (up_to g.K.Numbering.number_of (g.P.Test.is_passed l.test) (g.C.TryChange.changed l.change) l.last) l.fn.self

abbrev pub decreases-things : goal.decreases-things
decreases-things g l = 2 ^ 64 - l.last
