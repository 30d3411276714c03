use Rattle.std.proofs.Common.{◌<◌, eqb, sym, ◌∙◌, arith}
use Rattle.jsp_model.specs.declared.state.Row.{Row}
use Rattle.jsp_table.proofs.Next.{next_is_above}
use Rattle.jsp_index.proofs.Covering.{space_has}
use Rattle.jsp_index.proofs.OwnRows.{passed_here, passed_to_end, passed_to_next}
use Rattle.jsp_index.proofs.own.passed_to.Goals as goal

pub returns-then-is_in-clause-none : goal.returns-then-is_in-clause-none
returns-then-is_in-clause-none c = passed_here c.args.space c.args.number c.args.rows.now

pub returns-in-None-clause-none : goal.returns-in-None-clause-none
returns-in-None-clause-none c =
    let space = c.args.space in
    passed_to_end space c.args.number c.numbers_under.result.now c.args.rows.now (c.numbers_under.ensures (λ (r : Row). eqb r.space space) (λ seed r h. space_has seed space r h)) _ (sym c.next_above.ensures.next ∙ c.in-None.is)

pub overflow_sub-result : goal.overflow_sub-result
overflow_sub-result c =
    let above : c.args.number < c.in-Some.next = next_is_above c.numbers_under.result.now c.args.number c.in-Some.next (sym c.next_above.ensures.next ∙ c.in-Some.is) in
    omega arith

pub returns-in-Some-clause-up : goal.returns-in-Some-clause-up
returns-in-Some-clause-up c =
    let above : c.args.number < c.in-Some.next = next_is_above c.numbers_under.result.now c.args.number c.in-Some.next (sym c.next_above.ensures.next ∙ c.in-Some.is) in
    omega arith

pub returns-in-Some-clause-none : goal.returns-in-Some-clause-none
returns-in-Some-clause-none c =
    let space = c.args.space in
    passed_to_next space c.args.number c.numbers_under.result.now c.args.rows.now (c.numbers_under.ensures (λ (r : Row). eqb r.space space) (λ seed r h. space_has seed space r h)) c.in-Some.next c.next_above.ensures.increasing (sym c.next_above.ensures.next ∙ c.in-Some.is)
