use Rattle.std.proofs.Common.{◌≡◌, map, take}
use Rattle.jsp_keyed.specs.Kept.{item_of}
use Rattle.jsp_keyed.proofs.ends.ends_of.Given as goal

abbrev pub invariant-things : goal.invariant-things
invariant-things g l = l.items.items ≡ map (item_of g.K.Numbering.number_of g.K.Keying.end_of g.K.Keying.rank_of) (take l.thing-index l.things)
