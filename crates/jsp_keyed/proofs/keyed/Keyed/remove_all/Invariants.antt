use Rattle.std.proofs.Common.{◌≡◌, not, length}
use Rattle.std.specs.Prelude.{filter}
use Rattle.jsp_keyed.proofs.keyed.Keyed.remove_all.Given as goal

abbrev pub invariant-things : goal.invariant-things
invariant-things g l = filter (λ x. not (g.P.Test.is_passed l.test x)) l.self ≡ filter (λ x. not (g.P.Test.is_passed l.test x)) l.fn.self

abbrev pub decreases-things : goal.decreases-things
decreases-things g l = length l.self
