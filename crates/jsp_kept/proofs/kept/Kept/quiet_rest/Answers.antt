use Rattle.std.proofs.Common.{[], false, Ok}
use Rattle.jsp_kept.specs.Eras.{no_memory}
use Rattle.jsp_kept.proofs.Growing.{performs_stopped, performs_then, prepares_then}
use Rattle.jsp_kept.proofs.kept.Kept.quiet_rest.Goals as goal

pub returns-in-Err-clause-performs : goal.returns-in-Err-clause-performs
returns-in-Err-clause-performs g c = rw c.unmade.ensures (performs_stopped _ _ (no_memory false) c.make_place_after.ensures.prepares)

pub returns-in-Err-finish_all-clause-performs : goal.returns-in-Err-finish_all-clause-performs
returns-in-Err-finish_all-clause-performs g c =
    rw c.unmade-in-Err-finish_all.ensures (performs_stopped _ _ (no_memory false) (prepares_then _ _ _ c.make_place_after.ensures.prepares c.in-Err-finish_all.ensures.err))

pub returns-then-is_quiet-clause-performs : goal.returns-then-is_quiet-clause-performs
returns-then-is_quiet-clause-performs g c = performs_then _ _ _ [] (Ok tt) c.make_place_after.ensures.prepares c.in_default-finish_all.ensures.ok

pub returns-clause-performs : goal.returns-clause-performs
returns-clause-performs g c = performs_then _ _ _ [] (Ok tt) c.make_place_after.ensures.prepares c.in_default-finish_all.ensures.ok
