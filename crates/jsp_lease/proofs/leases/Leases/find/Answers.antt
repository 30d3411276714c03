use Rattle.std.proofs.Common.{sym, ap, ◌∙◌}
use Rattle.jsp_lease.specs.Leases.{item_numbered}
use Rattle.jsp_lease.proofs.Standing.{number_there}
use Rattle.jsp_lease.proofs.leases.Leases.find.Goals as goal

pub returns : goal.returns
returns c =
    sym (ap (λ w. item_numbered c.args.number w.items) (sym c.self.view_is)
    ∙ number_there c.self.inside.numbers.items c.self.inside.tournament c.args.number c.in_ok-item.field-0-0 c.in_ok-item.item c.self.invariant.kept c.in_ok-item.ensures.some)
