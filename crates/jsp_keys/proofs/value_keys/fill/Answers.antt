use Rattle.std.proofs.Common.{◌≢◌, ◌<◌, ◌∙◌, ℕ, List, length, sym, ap, arith, get_or-set_other, get_or-set_same, below_more}
use Rattle.std.proofs.Math.ListN.{length-set}
use Rattle.std.proofs.lemmas.List.{get_or-map}
use Rattle.jsp_types.specs.declared.value.Value.{Value}
use Rattle.jsp_keys.specs.Keys.{field_key}
use Rattle.jsp_keys.proofs.value_keys.fill.Goals as goal

pub places-preserved : goal.places-preserved
places-preserved c =
    let key = λ (f : List ℕ × Value). field_key c.args.seed c.args.space f.0 f.1 in
    let f = c.index-fields-place.result in
    let lt : c.places.place < length c.places.keys = omega (arith, c.places.invariant.room, c.places-test.true) in
    record {
      made = below_more _ _
          (λ k h. let ne : k ≢ c.places.place = omega arith in rw get_or-set_other (c.places.invariant.made k h))
          (rw (get_or-set_same c.places.keys c.places.place c.key_of.result 0 lt) (c.key_of.ensures c.args.seed c.args.space c.start_of_fields-start.ensures ∙ (ap key c.index-fields-place.is ∙ sym (get_or-map key c.args.fields.now c.places.place f 0 c.if-place-fields.false))));
      room = length-set c.places.keys c.places.place c.key_of.result ∙ c.places.invariant.room;
    }
