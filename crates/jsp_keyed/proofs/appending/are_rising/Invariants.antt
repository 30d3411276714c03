use Rattle.std.proofs.Common.{◌≤◌, take}
use Rattle.std.specs.List.{AllByRecursion}
use Rattle.jsp_table.specs.Finding.{AreNumbered}
use Rattle.jsp_keyed.proofs.Joining.{ArePositive}
use Rattle.jsp_keyed.proofs.appending.are_rising.Given as goal

abbrev pub invariant-things : goal.invariant-things
invariant-things g l = record {
  rising : AreNumbered g.K.Numbering.number_of (take l.thing-index l.things);
  positive : ArePositive g.K.Numbering.number_of (take l.thing-index l.things);
  below : AllByRecursion (λ x. g.K.Numbering.number_of x ≤ l.last) (take l.thing-index l.things);
}
