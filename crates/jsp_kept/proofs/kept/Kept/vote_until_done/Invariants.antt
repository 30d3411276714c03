use Rattle.jsp_kept.specs.Calls.{KeepsAsks, KeepsOuts}
use Rattle.jsp_kept.specs.Eras.{HasPlace, Prepares, left_to_make}
use Rattle.jsp_kept.proofs.kept.Kept.vote_until_done.Given as goal

abbrev pub invariant-eras : goal.invariant-eras
invariant-eras g l = Prepares l.initial.self l.self × HasPlace l.self × KeepsAsks l.initial.self l.self × KeepsOuts l.initial.self l.self

abbrev pub decreases-eras : goal.decreases-eras
decreases-eras g l = left_to_make l.self.state
