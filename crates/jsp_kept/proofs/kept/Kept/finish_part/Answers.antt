use Rattle.std.proofs.Common.{rules, refl, subst, sym}
use Rattle.jsp_kept.proofs.Owns.{IsUncounted, none_counted}
use Rattle.jsp_kept.proofs.Keeping.{grows_quietly}
use Rattle.jsp_kept.proofs.Counting.{whole_quietly}
use Rattle.jsp_kept.proofs.Growing.{performs_in_era}
use Rattle.jsp_kept.proofs.Stopping.{part_stopped}
use Rattle.jsp_kept.proofs.kept.Kept.finish_part.Goals as goal

pub invariant_of-self : goal.invariant_of-self
invariant_of-self g c =
    let finishes = c.finish_within.ensures.finishes in
    whole_quietly _ _ _ _ finishes.steps _ _ c.self.invariant
    (record {
      era = record { spaces = refl; era = refl; is_sealed = refl };
      makes = finishes.makes;
      room = c.finish_within.ensures.room;
      bound = c.finish_within.ensures.keeps;
      before_is = search rules;
      after_is = search rules;
      limit = refl;
      shares = record { asks_parts = refl; asks_amount = refl; outs_parts = refl; outs_amount = refl };
    })
    (subst IsUncounted (sym finishes.own) none_counted)
    (record { asked = refl; book = refl }) (record { taken = refl; book = refl }) refl refl

pub returns-clause-performs : goal.returns-clause-performs
returns-clause-performs g c =
    let finishes = c.finish_within.ensures.finishes in
    rw (← c.self.view_is) (performs_in_era _ _ _ finishes.steps _ (record { spaces = refl; era = refl; is_sealed = refl }) finishes.makes (grows_quietly _ _ _ c.self.invariant.kept (subst IsUncounted (sym finishes.own) none_counted) (record { asked = refl; book = refl }) (record { taken = refl; book = refl })) finishes.own finishes.leaves)

pub returns-clause-long : goal.returns-clause-long
returns-clause-long g c =
    rw (← c.self.view_is) (part_stopped _ _ _ _ c.args.most _ _ c.finish_within.result c.self.inside.log.ok.0 c.self.invariant.limit c.finish_within.new.log.ok.0 c.finish_within.ensures.long)
