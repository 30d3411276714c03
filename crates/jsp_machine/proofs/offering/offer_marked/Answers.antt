use Rattle.std.proofs.Common.{◌≡◌, ◌+◌, ◌||◌, ℤ, List, not, pos, take, get_or, true, subst, arith}
use Rattle.std.specs.List.{list_all}
use Rattle.std.proofs.lemmas.List.{take_all, take_more}
use Rattle.jsp_model.specs.declared.state.Row.{Row}
use Rattle.jsp_machine.specs.Unmarking.{is_marked_by}
use Rattle.jsp_core.specs.Offering.{is_offered}
use Rattle.jsp_machine.proofs.Stirred.{none_marked, one_more_marked}
use Rattle.jsp_machine.proofs.offering.offer_marked.Goals as goal

pub leases-init : goal.leases-init
leases-init c = record { held = none_marked c.args.state.now.rows c.args.offers.now; keeps = λ n e. e }

pub leases-preserved : goal.leases-preserved
leases-preserved c =
    let leases = c.args.leases.now in
    let i = c.leases.lease-index in
    let x = get_or leases i (pos 0) in
    record {
      held = one_more_marked c.args.state.now.rows (take i leases) (take (i + 1) leases) x c.leases.offers c.offer_for_lease.new.offers (take_more leases i (pos 0) c.leases-test.true) c.offer_for_lease.ensures.keeps c.leases.invariant.held c.offer_for_lease.ensures.held;
      keeps = λ n e. c.offer_for_lease.ensures.keeps n (c.leases.invariant.keeps n e);
    }

pub returns-clause-held : goal.returns-clause-held
returns-clause-held c =
    subst (λ (leases : List ℤ). list_all (λ (r : Row). not (is_marked_by leases r) || is_offered c.leases.offers r.number) c.args.state.now.rows ≡ true)
    (take_all c.leases.lease-index c.args.leases.now (omega (arith, c.leases-test.false))) c.leases.invariant.held
