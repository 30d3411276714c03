use Rattle.std.proofs.Common.{rules, refl, subst, sym}
use Rattle.jsp_model.specs.declared.house.Input.TheVariants as input
use Rattle.jsp_kept.proofs.Owns.{IsUncounted, clock_own}
use Rattle.jsp_kept.proofs.Keeping.{grows_quietly}
use Rattle.jsp_kept.proofs.Counting.{whole_quietly}
use Rattle.jsp_kept.proofs.Besides.{performs_beside}
use Rattle.jsp_kept.proofs.Stopping.{part_stopped}
use Rattle.jsp_kept.proofs.kept.Kept.clock_part.Goals as goal

pub invariant_of-self : goal.invariant_of-self
invariant_of-self g c =
    let acts = c.act_within.ensures.acts.acts in
    whole_quietly _ _ _ _ acts.steps _ _ c.self.invariant
    (record {
      era = record { spaces = refl; era = refl; is_sealed = refl };
      makes = acts.makes;
      room = c.act_within.ensures.room;
      bound = c.act_within.ensures.keeps;
      before_is = search rules;
      after_is = search rules;
      limit = refl;
      shares = record { asks_parts = refl; asks_amount = refl; outs_parts = refl; outs_amount = refl };
    })
    (subst IsUncounted (sym acts.own) (clock_own (g.H.House.view c.self.inside.house) c.args.time c.act_within.result))
    (record { asked = refl; book = refl }) (record { taken = refl; book = refl }) refl refl

pub returns-clause-performs : goal.returns-clause-performs
returns-clause-performs g c =
    let acts = c.act_within.ensures.acts.acts in
    rw (← c.self.view_is) (performs_beside _ _ (input.Clock c.args.time) c.act_within.result (record { spaces = refl; era = refl; is_sealed = refl }) c.act_within.ensures.acts
    (grows_quietly _ _ _ c.self.invariant.kept (subst IsUncounted (sym acts.own) (clock_own (g.H.House.view c.self.inside.house) c.args.time c.act_within.result)) (record { asked = refl; book = refl }) (record { taken = refl; book = refl })))

pub returns-clause-long : goal.returns-clause-long
returns-clause-long g c =
    rw (← c.self.view_is) (part_stopped _ _ _ _ c.args.most _ _ c.act_within.result c.self.inside.log.ok.0 c.self.invariant.limit c.act_within.new.log.ok.0 c.act_within.ensures.long)
