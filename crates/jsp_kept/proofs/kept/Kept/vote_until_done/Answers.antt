use Rattle.std.proofs.Common.{rules, ◌≡◌, false, true, refl, Ok, Err}
use Rattle.jsp_kept.specs.Eras.{no_memory}
use Rattle.jsp_kept.proofs.Growing.{asks_none, asks_then, outs_none, outs_then, performs_stopped, prepares_none, prepares_then}
use Rattle.jsp_kept.proofs.Turning.{answers_then, undone_prepares, votes_then}
use Rattle.jsp_kept.proofs.kept.Kept.vote_until_done.Goals as goal

pub eras-init : goal.eras-init
eras-init g c = (prepares_none _, c.requires.place, asks_none _, outs_none _)

pub returns-in-Ok-clause-performs : goal.returns-in-Ok-clause-performs
returns-in-Ok-clause-performs g c = votes_then _ _ _ (Ok c.in-Ok.settled) c.eras.invariant.0 c.in-Ok.ensures.performs

pub returns-in-Ok-clause-answers : goal.returns-in-Ok-clause-answers
returns-in-Ok-clause-answers g c = answers_then _ _ _ c.in-Ok.settled c.eras.invariant.0 c.requires.votes c.in-Ok.ensures.answers

pub returns-then-stopped-clause-performs : goal.returns-then-stopped-clause-performs
returns-then-stopped-clause-performs g c = votes_then _ _ _ (Err c.in-Err.stopped) c.eras.invariant.0 c.in-Err.ensures.performs

pub returns-in-Err-make_place_after-clause-performs : goal.returns-in-Err-make_place_after-clause-performs
returns-in-Err-make_place_after-clause-performs g c =
    let undone : c.in-Err.stopped.done ≡ false = search rules in
    rw c.unmade.ensures
    (performs_stopped _ _ (no_memory false) (prepares_then _ _ _ c.eras.invariant.0 (prepares_then _ _ _ (undone_prepares _ _ c.in-Err.stopped undone c.in-Err.ensures.performs) c.make_place_after.ensures.prepares)))

pub eras-preserved : goal.eras-preserved
eras-preserved g c =
    let undone : c.in-Err.stopped.done ≡ false = search rules in
    let e = c.settle_in_era.ensures in
    let f = c.make_place_after.ensures in (
      prepares_then _ _ _ c.eras.invariant.0 (prepares_then _ _ _ (undone_prepares _ _ c.in-Err.stopped undone c.in-Err.ensures.performs) f.prepares),
      search rules,
      asks_then _ _ _ c.eras.invariant.2 (asks_then _ _ _ e.asks f.asks),
      outs_then _ _ _ c.eras.invariant.3 (outs_then _ _ _ e.outs f.outs),
    )
