use Rattle.std.proofs.Common.{◌-◌, length, subst}
use Rattle.jsp_lease.specs.Leases.{AreNumbered}
use Rattle.jsp_lease.proofs.Adding.{are_numbered}
use Rattle.jsp_lease.proofs.leases.Leases.last.Goals as goal

pub returns-clause-numbered : goal.returns-clause-numbered
returns-clause-numbered c =
    let inside = c.self.inside in
    subst AreNumbered c.self.view_is
    (are_numbered inside.numbers.items inside.tournament inside.last (length inside.tournament - length inside.numbers.items) c.self.invariant.kept c.self.invariant.within)
