use Rattle.std.proofs.Common.{rules, ◌≡◌, true, refl}
use Rattle.jsp_model.specs.Lookup.{is_open}
use Rattle.jsp_kept.proofs.Begun.{whole_shut}
use Rattle.jsp_kept.proofs.kept.Kept.shut.Goals as goal

pub invariant_of-self : goal.invariant_of-self
invariant_of-self g c =
    let opened : is_open (g.H.House.view c.self.inside.house) c.args.session ≡ true = search rules in
    whole_shut _ _ _ _ c.args.session c.self.invariant (record { spaces = refl; era = refl; is_sealed = refl })
    opened (rw c.bound.ensures.view c.shut.ensures.steps) (record { asked = refl; book = refl }) (record { taken = refl; book = refl })
    (rw c.bound.ensures.view c.shut.ensures.room) refl c.bound.ensures.bound (record { asks_parts = refl; asks_amount = refl; outs_parts = refl; outs_amount = refl })
    c.self.invariant.asks_sum c.self.invariant.outs_sum
