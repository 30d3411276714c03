use Rattle.std.proofs.Common.{rules, refl, subst, sym}
use Rattle.jsp_kept.proofs.Owns.{IsUncounted, settle_own}
use Rattle.jsp_kept.proofs.Keeping.{grows_quietly}
use Rattle.jsp_kept.proofs.Counting.{whole_quietly}
use Rattle.jsp_kept.proofs.Growing.{performs_in_era}
use Rattle.jsp_kept.proofs.Besides.{turn_answers}
use Rattle.jsp_kept.proofs.Stopping.{part_stopped}
use Rattle.jsp_kept.proofs.kept.Kept.settle_part.Goals as goal
use Rattle.jsp_kept.proofs.Turning.{outcome_leaves}

pub invariant_of-self : goal.invariant_of-self
invariant_of-self g c =
    let settles = c.settle_within.ensures.settles in
    whole_quietly _ _ _ _ settles.steps _ _ c.self.invariant
    (record {
      era = record { spaces = refl; era = refl; is_sealed = refl };
      makes = settles.makes;
      room = c.settle_within.ensures.room;
      bound = c.settle_within.ensures.keeps;
      before_is = search rules;
      after_is = search rules;
      limit = refl;
      shares = record { asks_parts = refl; asks_amount = refl; outs_parts = refl; outs_amount = refl };
    })
    (subst IsUncounted (sym settles.own) (settle_own (g.H.House.view c.self.inside.house) c.settle_within.result))
    (record { asked = refl; book = refl }) (record { taken = refl; book = refl }) refl refl

pub returns-clause-performs : goal.returns-clause-performs
returns-clause-performs g c =
    let settles = c.settle_within.ensures.settles in
    rw (← c.self.view_is) (performs_in_era _ _ _ settles.steps _ (record { spaces = refl; era = refl; is_sealed = refl }) settles.makes (grows_quietly _ _ _ c.self.invariant.kept (subst IsUncounted (sym settles.own) (settle_own (g.H.House.view c.self.inside.house) c.settle_within.result)) (record { asked = refl; book = refl }) (record { taken = refl; book = refl })) settles.own (outcome_leaves c.settle_within.result _ _ _ settles.leaves))

pub returns-clause-answers : goal.returns-clause-answers
returns-clause-answers g c = rw (← c.self.view_is) (turn_answers _ _ _ c.settle_within.result c.settle_within.ensures.settles.answers)

pub returns-clause-long : goal.returns-clause-long
returns-clause-long g c =
    rw (← c.self.view_is) (part_stopped _ _ _ _ c.args.most _ _ c.settle_within.result c.self.inside.log.ok.0 c.self.invariant.limit c.settle_within.new.log.ok.0 c.settle_within.ensures.long)
