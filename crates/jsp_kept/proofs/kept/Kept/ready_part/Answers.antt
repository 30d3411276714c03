use Rattle.std.proofs.Common.{rules, refl, subst, sym}
use Rattle.jsp_kept.proofs.Owns.{IsUncounted, none_counted}
use Rattle.jsp_kept.proofs.Keeping.{grows_quietly}
use Rattle.jsp_kept.proofs.Counting.{whole_quietly}
use Rattle.jsp_kept.proofs.Besides.{prepares_beside}
use Rattle.jsp_kept.proofs.Stopping.{part_readied}
use Rattle.jsp_kept.proofs.kept.Kept.ready_part.Goals as goal

pub invariant_of-self : goal.invariant_of-self
invariant_of-self g c =
    let goes = c.ready_within.ensures.goes.goes in
    whole_quietly _ _ _ _ goes.steps _ _ c.self.invariant
    (record {
      era = record { spaces = refl; era = refl; is_sealed = refl };
      makes = goes.makes;
      room = c.ready_within.ensures.room;
      bound = c.ready_within.ensures.keeps;
      before_is = search rules;
      after_is = search rules;
      limit = refl;
      shares = record { asks_parts = refl; asks_amount = refl; outs_parts = refl; outs_amount = refl };
    })
    (subst IsUncounted (sym goes.own) none_counted)
    (record { asked = refl; book = refl }) (record { taken = refl; book = refl }) refl refl

pub returns-clause-prepares : goal.returns-clause-prepares
returns-clause-prepares g c =
    let goes = c.ready_within.ensures.goes.goes in
    rw (← c.self.view_is) (prepares_beside _ _ c.ready_within.result (record { spaces = refl; era = refl; is_sealed = refl }) c.ready_within.ensures.goes
    (grows_quietly _ _ _ c.self.invariant.kept (subst IsUncounted (sym goes.own) none_counted) (record { asked = refl; book = refl }) (record { taken = refl; book = refl })))

pub returns-clause-long : goal.returns-clause-long
returns-clause-long g c =
    rw (← c.self.view_is) (part_readied _ _ _ _ c.args.most _ _ c.ready_within.result c.self.inside.log.ok.0 c.self.invariant.limit c.ready_within.new.log.ok.0 c.ready_within.ensures.long)
