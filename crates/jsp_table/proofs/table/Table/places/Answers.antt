use Rattle.std.proofs.Common.{subst}
use Rattle.jsp_table.specs.Finding.{AreNumbered}
use Rattle.jsp_table.proofs.Standing.{kept_numbered}
use Rattle.jsp_table.proofs.table.Table.places.Goals as goal

pub returns-clause-rising : goal.returns-clause-rising
returns-clause-rising g c =
    let num = g.N.Numbering.number_of in
    subst (AreNumbered num) c.self.view_is (kept_numbered num c.self.inside.numbers.items c.self.inside.slots.items c.self.invariant)
