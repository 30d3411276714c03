use Rattle.std.proofs.Common.{◌≡◌, ◌∙◌, ap, sym, arith, rules}
use Rattle.std.proofs.lemmas.Grind.{common_steps}
use Rattle.jsp_lease.specs.Due.{first_item, over_by}
use Rattle.jsp_lease.specs.Tournament.{living}
use Rattle.jsp_lease.proofs.Over.{first_over, if_over}
use Rattle.jsp_lease.proofs.leases.Leases.due.Goals as goal

pub returns : goal.returns
returns c =
    let step : c.filter.result ≡ if_over c.args.time c.first.result = first_of (search rules, grind (arith, common_steps)) in
    step ∙ (ap (if_over c.args.time) c.first.ensures
    ∙ (sym (first_over c.args.time (living c.self.inside.tournament)) ∙ ap (λ w. first_item (over_by c.args.time w.items)) c.self.view_is))
