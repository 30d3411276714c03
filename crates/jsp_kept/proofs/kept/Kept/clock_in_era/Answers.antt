use Rattle.std.proofs.Common.{rules, refl, subst, sym, ◌≡◌, length}
use Rattle.std.specs.Prelude.{vec_len}
use Rattle.jsp_kept.specs.Eras.{HasPlace}
use Rattle.jsp_kept.proofs.Owns.{IsUncounted, clock_own}
use Rattle.jsp_kept.proofs.Keeping.{grows_quietly}
use Rattle.jsp_kept.proofs.Counting.{whole_quietly}
use Rattle.jsp_kept.proofs.Growing.{performs_in_era}
use Rattle.jsp_kept.proofs.Ending.{needs_memory}
use Rattle.jsp_kept.proofs.kept.Kept.clock_in_era.Goals as goal

pub invariant_of-self : goal.invariant_of-self
invariant_of-self g c =
    let acts = c.act_ready.ensures.acts in
    whole_quietly _ _ _ _ acts.steps _ _ c.self.invariant
    (record {
      era = record { spaces = refl; era = refl; is_sealed = refl };
      makes = acts.makes;
      room = c.act_ready.ensures.room;
      bound = c.act_ready.ensures.bound;
      before_is = search rules;
      after_is = search rules;
      limit = refl;
      shares = record { asks_parts = refl; asks_amount = refl; outs_parts = refl; outs_amount = refl };
    })
    (subst IsUncounted (sym acts.own) (clock_own (g.H.House.view c.self.inside.house) c.args.time c.act_ready.result))
    (record { asked = refl; book = refl }) (record { taken = refl; book = refl }) refl refl

pub returns-clause-performs : goal.returns-clause-performs
returns-clause-performs g c =
    let acts = c.act_ready.ensures.acts in
    rw (← c.self.view_is) (performs_in_era _ _ _ acts.steps _ (record { spaces = refl; era = refl; is_sealed = refl }) acts.makes (grows_quietly _ _ _ c.self.invariant.kept (subst IsUncounted (sym acts.own) (clock_own (g.H.House.view c.self.inside.house) c.args.time c.act_ready.result)) (record { asked = refl; book = refl }) (record { taken = refl; book = refl })) acts.own acts.leaves)

pub returns-clause-why : goal.returns-clause-why
returns-clause-why g c =
    let place = rw (← c.self.view_is) at c.requires.place in
    needs_memory _ _ _ _ c.act_ready.result c.self.invariant place (search rules) c.act_ready.ensures.full c.act_ready.ensures.why
