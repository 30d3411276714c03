use Rattle.jsp_keyed.proofs.Keeping.{named_more}
use Rattle.jsp_keyed.proofs.naming.name_all.Goals as goal

pub things-preserved : goal.things-preserved
things-preserved g c =
    let num = g.K.Numbering.number_of in
    let keys = g.K.Keying.keys_of in
    record {
      keeps = λ k n h. c.name.ensures.keeps k n (c.things.invariant.keeps k n h);
      named = named_more num keys g.K.Keying.end_of g.K.Keying.rank_of c.args.seed c.things.hints c.name.new.hints c.args.things.now c.things.thing-index c.thing-item.result c.things-test.true c.thing-item.is c.name.ensures.keeps c.in_ok-name.ensures.ok c.things.invariant.named;
    }
