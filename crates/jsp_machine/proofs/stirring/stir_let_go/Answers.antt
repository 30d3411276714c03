use Rattle.std.proofs.Common.{List, ℤ, true, not, ◌≡◌, ◌||◌, false, ◌==◌, subst}
use Rattle.std.specs.List.{list_all}
use Rattle.std.specs.Option.{option_map_or}
use Rattle.jsp_model.specs.declared.state.Row.{Row}
use Rattle.jsp_machine.specs.Unmarking.{is_unmarked, is_touched_by}
use Rattle.jsp_machine.specs.Stirring.{are_named_for}
use Rattle.jsp_machine.proofs.Stirred.{is_named_once}
use Rattle.jsp_machine.proofs.stirring.stir_let_go.Goals as goal

pub returns-clause-stirred : goal.returns-clause-stirred
returns-clause-stirred c =
    let st = c.args.state.now in
    let act = c.args.step.now in
    let first = c.stir_touched.new.stirred in
    let touched = subst (λ (leases : List ℤ). list_all (λ (r : Row). not (is_touched_by leases r) || are_named_for st first r) st.rows ≡ true) c.cancelled_by.ensures c.stir_touched.ensures.stirred in
    is_named_once st act (λ (r : Row). option_map_or (λ u. is_unmarked u r) c.unmarked_by.result false) (λ (r : Row). option_map_or (λ n. r.number == n) c.ended_by.result false)
    first c.stir_if_unmarked.new.stirred c.stir_if_ended.new.stirred c.stir_if_unmarked.ensures.keeps c.stir_if_ended.ensures.keeps c.unmarked_by.ensures c.ended_by.ensures touched c.stir_if_unmarked.ensures.stirred c.stir_if_ended.ensures.stirred
