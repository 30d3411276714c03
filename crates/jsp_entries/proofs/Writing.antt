-- A write, once its rows are made and its space has joined.
use Rattle.std.proofs.Common.{◌≡◌, ℕ, ◌+◌, List, Option, ap, sym, ◌∙◌}
use Rattle.jsp_model.specs.declared.state.State.{State}
use Rattle.jsp_model.specs.declared.state.Row.{Row}
use Rattle.jsp_model.specs.Requests.{WriteRequest, caller_of, place_of}
use Rattle.jsp_model.specs.Changes.{join, write}
use Rattle.jsp_transactions.specs.Writing.{new_rows, with_rows}
use Rattle.jsp_transactions.proofs.Writing.{rows_are_written, new_rows_once_joined, length-rows_from}
use Rattle.jsp_entries.specs.Writing.{with_new_rows}

abbrev once_joined : State → WriteRequest → State
once_joined st w = join st (caller_of w.txn) (place_of st w.space)

rows_added : (st : State) (w : WriteRequest) → with_new_rows st (caller_of w.txn) (new_rows st w) ≡ with_rows st w
rows_added st w = ap (λ n. record (with_rows st w) { next_number = st.next_number + n }) (length-rows_from st.next_number st w w.entries)

pub written : (st : State) (w : WriteRequest) (caller : Option ℕ) (space : ℕ) (rows : List Row) (joined new : State) → caller ≡ caller_of w.txn → space ≡ place_of st w.space → rows ≡ new_rows st w → joined ≡ join st caller space → new ≡ with_new_rows joined caller rows → new ≡ write st w
written st w caller space rows joined new by at made is so =
    let here : joined ≡ once_joined st w = is ∙ (ap (λ c. join st c space) by ∙ ap (join st (caller_of w.txn)) at) in
    let same : rows ≡ new_rows (once_joined st w) w = made ∙ sym (new_rows_once_joined st w (caller_of w.txn) (place_of st w.space)) in
    so ∙ (ap (λ j. with_new_rows j caller rows) here ∙ (ap (λ c. with_new_rows (once_joined st w) c rows) by ∙ (ap (with_new_rows (once_joined st w) (caller_of w.txn)) same
    ∙ (rows_added (once_joined st w) w ∙ sym (rows_are_written (once_joined st w) w)))))
