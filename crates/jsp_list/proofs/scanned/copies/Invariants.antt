use Rattle.std.proofs.Common.{◌≡◌, take}
use Rattle.jsp_list.proofs.scanned.copies.Given as goal

abbrev pub invariant-things : goal.invariant-things
invariant-things g l = l.copies ≡ take l.thing-index l.things
