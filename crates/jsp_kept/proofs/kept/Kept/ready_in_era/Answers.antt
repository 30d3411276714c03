use Rattle.std.proofs.Common.{rules, refl, subst, sym, ◌≡◌, length}
use Rattle.std.specs.Prelude.{vec_len}
use Rattle.jsp_kept.specs.Eras.{HasPlace}
use Rattle.jsp_kept.proofs.Owns.{IsUncounted, none_counted}
use Rattle.jsp_kept.proofs.Keeping.{grows_quietly}
use Rattle.jsp_kept.proofs.Counting.{whole_quietly}
use Rattle.jsp_kept.proofs.Growing.{prepares_in_era}
use Rattle.jsp_kept.proofs.Ending.{nearer_ready}
use Rattle.jsp_kept.proofs.kept.Kept.ready_in_era.Goals as goal

pub invariant_of-self : goal.invariant_of-self
invariant_of-self g c =
    let goes = c.make_ready.ensures.goes in
    whole_quietly _ _ _ _ goes.steps _ _ c.self.invariant
    (record {
      era = record { spaces = refl; era = refl; is_sealed = refl };
      makes = goes.makes;
      room = c.make_ready.ensures.room;
      bound = c.make_ready.ensures.bound;
      before_is = search rules;
      after_is = search rules;
      limit = refl;
      shares = record { asks_parts = refl; asks_amount = refl; outs_parts = refl; outs_amount = refl };
    })
    (subst IsUncounted (sym goes.own) none_counted)
    (record { asked = refl; book = refl }) (record { taken = refl; book = refl }) refl refl

pub returns-clause-prepares : goal.returns-clause-prepares
returns-clause-prepares g c =
    let goes = c.make_ready.ensures.goes in
    rw (← c.self.view_is) (prepares_in_era _ _ (record { spaces = refl; era = refl; is_sealed = refl }) goes (grows_quietly _ _ _ c.self.invariant.kept (subst IsUncounted (sym goes.own) none_counted) (record { asked = refl; book = refl }) (record { taken = refl; book = refl })))

pub returns-clause-nearer : goal.returns-clause-nearer
returns-clause-nearer g c =
    let goes = c.make_ready.ensures.goes in
    let place = rw (← c.self.view_is) at c.requires in
    rw (← c.self.view_is) (nearer_ready _ _ _ _ _ c.make_ready.result goes.steps c.self.invariant place goes.makes goes.own (search rules) c.make_ready.ensures.why)
