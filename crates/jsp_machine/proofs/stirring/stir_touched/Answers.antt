use Rattle.std.proofs.Common.{◌≡◌, ◌+◌, ◌||◌, ℤ, List, not, pos, take, get_or, true, subst, arith}
use Rattle.std.specs.List.{list_all}
use Rattle.std.proofs.lemmas.List.{take_all, take_more}
use Rattle.jsp_model.specs.declared.state.Row.{Row}
use Rattle.jsp_machine.specs.Unmarking.{is_touched_by}
use Rattle.jsp_machine.specs.Stirring.{are_named_for}
use Rattle.jsp_machine.proofs.Stirred.{none_touched, one_more_touched}
use Rattle.jsp_machine.proofs.stirring.stir_touched.Goals as goal

pub leases-init : goal.leases-init
leases-init c = record { stirred = none_touched c.args.state.now c.args.stirred.now; keeps = λ n e. e }

pub leases-preserved : goal.leases-preserved
leases-preserved c =
    let leases = c.args.leases.now in
    let i = c.leases.lease-index in
    let x = get_or leases i (pos 0) in
    record {
      stirred = one_more_touched c.args.state.now (take i leases) (take (i + 1) leases) x c.leases.stirred c.stir_for_lease.new.stirred (take_more leases i (pos 0) c.leases-test.true) c.stir_for_lease.ensures.keeps c.leases.invariant.stirred c.stir_for_lease.ensures.stirred;
      keeps = λ n e. c.stir_for_lease.ensures.keeps n (c.leases.invariant.keeps n e);
    }

pub returns-clause-stirred : goal.returns-clause-stirred
returns-clause-stirred c =
    subst (λ (leases : List ℤ). list_all (λ (r : Row). not (is_touched_by leases r) || are_named_for c.args.state.now c.leases.stirred r) c.args.state.now.rows ≡ true)
    (take_all c.leases.lease-index c.args.leases.now (omega (arith, c.leases-test.false))) c.leases.invariant.stirred
