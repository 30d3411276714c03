use Rattle.std.proofs.Common.{◌≡◌, ◌||◌, not, true, ℕ, List, subst}
use Rattle.std.specs.List.{list_all}
use Rattle.jsp_model.specs.declared.state.Row.{Row}
use Rattle.jsp_model.specs.Lookup.{contains}
use Rattle.jsp_machine.specs.Unmarking.{is_unmarked}
use Rattle.jsp_machine.specs.Stirring.{are_named_for}
use Rattle.jsp_machine.proofs.Stirred.{any_named, named_among}
use Rattle.jsp_machine.proofs.stirring.stir_unmarked.Goals as goal

pub returns-then-are_many-clause-stirred : goal.returns-then-are_many-clause-stirred
returns-then-are_many-clause-stirred c = any_named (is_unmarked c.args.unmarking) c.args.state.now c.open.new.self c.open.ensures

pub returns-in-Ok-clause-stirred : goal.returns-in-Ok-clause-stirred
returns-in-Ok-clause-stirred c =
    let st = c.args.state.now in
    let named = subst (λ (ns : List ℕ). list_all (λ (r : Row). not (contains ns r.number) || are_named_for st c.stir_for_all.new.stirred r) st.rows ≡ true) c.as_slice.ensures.value c.stir_for_all.ensures.stirred in
    named_among st (is_unmarked c.args.unmarking) c.in-Ok.numbers.items c.stir_for_all.new.stirred c.in-Ok.ensures named

pub returns-in-Err-clause-stirred : goal.returns-in-Err-clause-stirred
returns-in-Err-clause-stirred c = any_named (is_unmarked c.args.unmarking) c.args.state.now c.open-in-Err.new.self c.open-in-Err.ensures
