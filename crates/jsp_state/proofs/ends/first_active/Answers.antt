use Rattle.std.proofs.Common.{◌≡◌, ◌∙◌, true, not, List, [], length, map, ap, sym, arith, rules}
use Rattle.std.specs.Prelude.{◌==◌}
use Rattle.std.proofs.lemmas.Grind.{common_steps}
use Rattle.jsp_lease.specs.Due.{first_item, over_by}
use Rattle.jsp_model.specs.declared.state.State.{State}
use Rattle.jsp_model.specs.declared.state.Transaction.{Transaction}
use Rattle.jsp_model.specs.Lookup.{is_voting}
use Rattle.jsp_txn.specs.Ending.{transaction_end}
use Rattle.jsp_state.proofs.Soonest.{none_over, all_active, is_none}
use Rattle.jsp_state.proofs.ends.first_active.Goals as goal

pub returns-in_default : goal.returns-in_default
returns-in_default c =
    let st = c.args.state.now in
    none_over c.args.time transaction_end (λ (t : Transaction). not (is_voting st t.number)) st.transactions
    (sym c.in_default.is ∙ (c.due.ensures ∙ ap (λ (st : State). first_item (over_by c.args.time (map transaction_end st.transactions))) c.state.view_is))

pub returns-then-is_empty : goal.returns-then-is_empty
returns-then-is_empty c =
    let st = c.args.state.now in
    let time = c.args.time in
    let empty : (length c.as_slice.result.now == 0) ≡ true = first_of (search rules, grind (arith, common_steps)) in
    let none : st.commits ≡ [] = sym (c.as_slice.ensures ∙ ap (λ (st : State). st.commits) c.state.view_is) ∙ is_none c.as_slice.result.now empty in
    sym c.in-Some.is ∙ (c.due.ensures ∙ (ap (λ (st : State). first_item (over_by time (map transaction_end st.transactions))) c.state.view_is
    ∙ ap (λ (w : List Transaction). first_item (over_by time (map transaction_end w))) (sym (all_active st none))))
