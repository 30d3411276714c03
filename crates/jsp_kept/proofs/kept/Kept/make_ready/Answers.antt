use Rattle.std.proofs.Common.{sym, subst, ◌<◌}
use Rattle.jsp_model.specs.declared.state.State.{State}
use Rattle.jsp_kept.specs.Eras.{left_to_make}
use Rattle.jsp_kept.proofs.Growing.{on_err, prepares_none, asks_none, outs_none, prepares_then, asks_then, outs_then}
use Rattle.jsp_kept.proofs.kept.Kept.make_ready.Goals as goal

pub eras-init : goal.eras-init
eras-init g c = (prepares_none _, c.make_place.ensures.place, asks_none _, outs_none _)

pub ready_in_era-requires : goal.ready_in_era-requires
ready_in_era-requires g c = c.eras.invariant.1

pub eras-smaller : goal.eras-smaller
eras-smaller g c =
    subst (λ (st : State). left_to_make st < left_to_make c.eras.self.state) (sym c.make_place_after.ensures.state) (c.in-Err.ensures.nearer c.in_ok-make_place_after.ensures.full)

pub eras-preserved : goal.eras-preserved
eras-preserved g c =
    let e = c.ready_in_era.ensures in
    let f = c.make_place_after.ensures in (
      prepares_then _ _ _ c.eras.invariant.0 (prepares_then _ _ _ e.prepares f.prepares),
      c.in_ok-make_place_after.ensures.place,
      asks_then _ _ _ c.eras.invariant.2 (asks_then _ _ _ e.asks f.asks),
      outs_then _ _ _ c.eras.invariant.3 (outs_then _ _ _ e.outs f.outs),
    )

pub returns-in_err-make_place_after-clause-prepares : goal.returns-in_err-make_place_after-clause-prepares
returns-in_err-make_place_after-clause-prepares g c = prepares_then _ _ _ c.make_place.ensures.prepares (prepares_then _ _ _ c.eras.invariant.0 (prepares_then _ _ _ c.ready_in_era.ensures.prepares c.make_place_after.ensures.prepares))

pub returns-in_err-make_place_after-clause-asks : goal.returns-in_err-make_place_after-clause-asks
returns-in_err-make_place_after-clause-asks g c = asks_then _ _ _ c.make_place.ensures.asks (asks_then _ _ _ c.eras.invariant.2 (asks_then _ _ _ c.ready_in_era.ensures.asks c.make_place_after.ensures.asks))

pub returns-in_err-make_place_after-clause-outs : goal.returns-in_err-make_place_after-clause-outs
returns-in_err-make_place_after-clause-outs g c = outs_then _ _ _ c.make_place.ensures.outs (outs_then _ _ _ c.eras.invariant.3 (outs_then _ _ _ c.ready_in_era.ensures.outs c.make_place_after.ensures.outs))

pub returns-clause-prepares : goal.returns-clause-prepares
returns-clause-prepares g c = prepares_then _ _ _ c.make_place.ensures.prepares (prepares_then _ _ _ c.eras.invariant.0 (prepares_then _ _ _ c.ready_in_era.ensures.prepares c.make_place-2.ensures.prepares))

pub returns-clause-asks : goal.returns-clause-asks
returns-clause-asks g c = asks_then _ _ _ c.make_place.ensures.asks (asks_then _ _ _ c.eras.invariant.2 (asks_then _ _ _ c.ready_in_era.ensures.asks c.make_place-2.ensures.asks))

pub returns-clause-outs : goal.returns-clause-outs
returns-clause-outs g c = outs_then _ _ _ c.make_place.ensures.outs (outs_then _ _ _ c.eras.invariant.3 (outs_then _ _ _ c.ready_in_era.ensures.outs c.make_place-2.ensures.outs))
