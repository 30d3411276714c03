use Rattle.std.proofs.Common.{◌≢◌, ◌<◌, ◌∙◌, ℕ, length, ap, arith, get_or-set_other, get_or-set_same, below_more}
use Rattle.std.proofs.Math.ListN.{length-set}
use Rattle.jsp_keys.specs.Keys.{mix}
use Rattle.jsp_keyed.specs.Several.{length_under}
use Rattle.jsp_keyed.proofs.lists.fill.Goals as goal

pub places-preserved : goal.places-preserved
places-preserved c =
    let lt : c.places.place < length c.places.lengths = omega (arith, c.places.invariant.room, c.places-test.true) in
    record {
      known = below_more _ _
          (λ k h. let ne : k ≢ c.places.place = omega arith in rw get_or-set_other (c.places.invariant.known k h))
          (rw (get_or-set_same c.places.lengths c.places.place c.length_of.result 0 lt) (c.length_of.ensures ∙ ap (length_under c.args.hints.now) (c.key_of_one_among-key.ensures ∙ ap (λ (k : ℕ). mix k c.args.count) c.get.ensures)));
      room = length-set c.places.lengths c.places.place c.length_of.result ∙ c.places.invariant.room;
    }
