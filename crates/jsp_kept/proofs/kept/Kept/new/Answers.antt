use Rattle.std.proofs.Common.{rules, ◌≡◌, ◌∙◌, refl, sym, ap}
use Rattle.jsp_model.specs.Lookup.{empty}
use Rattle.jsp_kept.proofs.Beginning.{whole_new}
use Rattle.jsp_kept.proofs.kept.Kept.new.Goals as goal

pub invariant_of-result : goal.invariant_of-result
invariant_of-result g c =
    let same : c.args.config.now ≡ c.in_ok-config.config = sym c.in_ok-config.ensures in
    whole_new _ _
    (record {
      state = c.bound.ensures.view ∙ (c.requires.house ∙ ap empty same);
      steps = c.new.ensures.items;
      asked = c.new-3.ensures.items;
      taken = c.new-4.ensures.items;
      asks_book = c.open-asks.ensures.total;
      outs_book = c.open-outs.ensures.total;
    })
    c.requires.era.0 c.requires.era.1
    (record {
      asks_sum = refl;
      outs_sum = refl;
      asks_parts = search rules;
      asks_amount = c.open-asks.ensures.amount;
      outs_parts = search rules;
      outs_amount = c.open-outs.ensures.amount;
      limit_is = refl;
      bound = c.bound.ensures.bound;
    })
