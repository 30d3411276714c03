use Rattle.std.proofs.Common.{◌∙◌, ◌+◌, ℕ, ap}
use Rattle.jsp_model.specs.declared.state.State.{State}
use Rattle.jsp_entries.specs.Asking.{write_of}
use Rattle.jsp_entries.specs.Writing.{row_numbered}
use Rattle.jsp_entries.proofs.Numbers.{one_row_more}
use Rattle.jsp_entries.proofs.write.new_rows.Goals as goal

pub entries-preserved : goal.entries-preserved
entries-preserved c =
    let st = c.args.state.now in
    let w = write_of c.args.asked.now in
    let next = ap (λ (s : State). s.next_number) c.state.view_is in
    one_row_more st.next_number st w c.entries.place c.raw-item.result c.entries.rows.items _ c.in_ok-new_row.field-0 c.entries-test.true c.entries.invariant
    (c.in_ok-new_row.ensures ∙ (ap (λ (n : ℕ). row_numbered (n + c.entries.place) st w c.raw-item.result) next ∙ ap (row_numbered (st.next_number + c.entries.place) st w) c.raw-item.is))
    c.in_ok-push.ensures.items
