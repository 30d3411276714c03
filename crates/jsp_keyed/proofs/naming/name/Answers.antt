use Rattle.std.proofs.Common.{◌≡◌, ◌<◌, true, length, arith, rules}
use Rattle.std.specs.Prelude.{slice_index}
use Rattle.std.proofs.lemmas.Grind.{common_steps}
use Rattle.jsp_table.specs.Hints.{names}
use Rattle.jsp_keyed.proofs.Named.{one_more}
use Rattle.jsp_keyed.proofs.naming.name.Goals as goal

pub places-preserved : goal.places-preserved
places-preserved g c =
    let n = g.K.Numbering.number_of c.args.thing.now in
    let keys = g.K.Keying.keys_of c.args.seed c.args.thing.now in
    let i = c.places.place in
    let lt : i < length keys = omega (arith, c.places-test.true, c.count-place-end.ensures) in
    let this : names c.add.new.self (slice_index keys i) n ≡ true = first_of (search rules, grind (arith, common_steps)) in
    record {
      keeps = λ k m h. c.add.ensures.keeps k m (c.places.invariant.keeps k m h);
      named = one_more c.places.hints c.add.new.self n i keys c.add.ensures.keeps lt c.places.invariant.named this;
    }
