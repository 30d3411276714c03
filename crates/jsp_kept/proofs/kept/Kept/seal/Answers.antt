use Rattle.std.proofs.Common.{rules, refl}
use Rattle.jsp_kept.proofs.Sealing.{whole_sealed}
use Rattle.jsp_kept.proofs.kept.Kept.seal.Goals as goal

pub invariant_of-self : goal.invariant_of-self
invariant_of-self g c =
    whole_sealed _ _ _ _ c.self.invariant
    (record {
      steps = search rules;
      is_sealed = refl;
      spaces = refl;
      state = c.bound.ensures.view;
      debt = c.bound.ensures.debt;
      asked = refl;
      taken = refl;
      asks_book = refl;
      outs_book = refl;
      era = refl;
    })
    (record {
      limit = refl;
      bound = c.bound.ensures.bound;
      shares = record { asks_parts = refl; asks_amount = refl; outs_parts = refl; outs_amount = refl };
      asks_sum = refl;
      outs_sum = refl;
      spare = search rules;
    })
