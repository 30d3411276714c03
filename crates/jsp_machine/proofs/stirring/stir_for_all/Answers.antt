use Rattle.std.proofs.Common.{◌≡◌, ◌||◌, ℕ, List, not, true, subst, arith}
use Rattle.std.specs.List.{list_all}
use Rattle.std.proofs.lemmas.List.{take_all}
use Rattle.jsp_model.specs.declared.state.Row.{Row}
use Rattle.jsp_model.specs.Lookup.{contains}
use Rattle.jsp_machine.specs.Stirring.{are_named_for}
use Rattle.jsp_machine.proofs.Stirred.{none_yet, one_more}
use Rattle.jsp_machine.proofs.stirring.stir_for_all.Goals as goal

pub numbers-init : goal.numbers-init
numbers-init c = record { stirred = none_yet c.args.state.now c.args.stirred.now; keeps = λ n e. e }

pub numbers-preserved : goal.numbers-preserved
numbers-preserved c = record {
  stirred = one_more c.args.state.now c.args.numbers.now c.numbers.number-index c.numbers.stirred c.stir_for.new.stirred c.numbers-test.true c.stir_for.ensures.keeps c.numbers.invariant.stirred c.stir_for.ensures.stirred;
  keeps = λ n e. c.stir_for.ensures.keeps n (c.numbers.invariant.keeps n e);
}

pub returns-clause-stirred : goal.returns-clause-stirred
returns-clause-stirred c =
    subst (λ (ns : List ℕ). list_all (λ (r : Row). not (contains ns r.number) || are_named_for c.args.state.now c.numbers.stirred r) c.args.state.now.rows ≡ true)
    (take_all c.numbers.number-index c.args.numbers.now (omega (arith, c.numbers-test.false))) c.numbers.invariant.stirred
