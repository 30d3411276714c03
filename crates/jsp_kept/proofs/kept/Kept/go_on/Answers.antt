use Rattle.jsp_kept.specs.Eras.{no_memory}
use Rattle.std.proofs.Common.{true}
use Rattle.jsp_kept.proofs.Growing.{performs_stopped, performs_then, prepares_then}
use Rattle.jsp_kept.proofs.kept.Kept.go_on.Goals as goal

pub returns-in-Err-clause-performs : goal.returns-in-Err-clause-performs
returns-in-Err-clause-performs g c = performs_stopped _ _ (no_memory true) c.make_place_after.ensures.prepares

pub returns-in-Ok-clause-performs : goal.returns-in-Ok-clause-performs
returns-in-Ok-clause-performs g c = performs_then _ _ _ _ _ c.make_place_after.ensures.prepares c.in-Ok.ensures.ok

pub returns-in-Err-finish_all-clause-performs : goal.returns-in-Err-finish_all-clause-performs
returns-in-Err-finish_all-clause-performs g c = performs_stopped _ _ (no_memory true) (prepares_then _ _ _ c.make_place_after.ensures.prepares c.in-Err-finish_all.ensures.err)
