use Rattle.std.proofs.Common.{rules, refl, subst, sym, ◌≡◌, length}
use Rattle.std.specs.Prelude.{vec_len}
use Rattle.jsp_kept.specs.Eras.{HasPlace}
use Rattle.jsp_kept.proofs.Owns.{IsUncounted, none_counted}
use Rattle.jsp_kept.proofs.Keeping.{grows_quietly}
use Rattle.jsp_kept.proofs.Counting.{whole_quietly}
use Rattle.jsp_kept.proofs.Growing.{performs_in_era}
use Rattle.jsp_kept.proofs.Ending.{nearer_finished}
use Rattle.jsp_kept.proofs.kept.Kept.finish_in_era.Goals as goal

pub invariant_of-self : goal.invariant_of-self
invariant_of-self g c =
    let finishes = c.finish.ensures.finishes in
    whole_quietly _ _ _ _ finishes.steps _ _ c.self.invariant
    (record {
      era = record { spaces = refl; era = refl; is_sealed = refl };
      makes = finishes.makes;
      room = c.finish.ensures.room;
      bound = c.finish.ensures.bound;
      before_is = search rules;
      after_is = search rules;
      limit = refl;
      shares = record { asks_parts = refl; asks_amount = refl; outs_parts = refl; outs_amount = refl };
    })
    (subst IsUncounted (sym finishes.own) none_counted)
    (record { asked = refl; book = refl }) (record { taken = refl; book = refl }) refl refl

pub returns-clause-performs : goal.returns-clause-performs
returns-clause-performs g c =
    let finishes = c.finish.ensures.finishes in
    rw (← c.self.view_is) (performs_in_era _ _ _ finishes.steps _ (record { spaces = refl; era = refl; is_sealed = refl }) finishes.makes (grows_quietly _ _ _ c.self.invariant.kept (subst IsUncounted (sym finishes.own) none_counted) (record { asked = refl; book = refl }) (record { taken = refl; book = refl })) finishes.own finishes.leaves)

pub returns-clause-nearer : goal.returns-clause-nearer
returns-clause-nearer g c =
    let finishes = c.finish.ensures.finishes in
    let place = rw (← c.self.view_is) at c.requires in
    rw (← c.self.view_is) (nearer_finished _ _ _ _ _ c.finish.result finishes.steps c.self.invariant place finishes.makes finishes.own (search rules) c.finish.ensures.why)
