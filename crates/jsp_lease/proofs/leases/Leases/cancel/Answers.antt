use Rattle.std.proofs.Common.{None, length, refl}
use Rattle.jsp_lease.specs.Leases.{without}
use Rattle.jsp_lease.specs.Tournament.{living}
use Rattle.jsp_lease.proofs.Standing.{number_there, without_place, seen}
use Rattle.jsp_lease.proofs.leases.Leases.cancel.Goals as goal

pub returns-clause-answer : goal.returns-clause-answer
returns-clause-answer c =
    let is = number_there c.self.inside.numbers.items c.self.inside.tournament c.args.number c.in-Some.place c.in-Some.item c.self.invariant.kept c.in-Some.ensures.some in
    rw (← c.self.view_is, is) refl

pub returns-clause-ok : goal.returns-clause-ok
returns-clause-ok c =
    let is = without_place c.self.inside.tournament c.args.number c.in-Some.place c.in-Some.item c.in-Some.ensures.some in
    rw (c.set.ensures, ← c.self.view_is)
    (seen c.self.inside.tournament c.in-Some.place c.self.inside.last (length c.self.inside.numbers.items) None (without c.args.number (living c.self.inside.tournament)) is)
