use Rattle.std.proofs.Common.{◌==◌, ◌&&◌, not, length, subst}
use Rattle.std.specs.Prelude.{IfSome, IsTrue}
use Rattle.std.specs.List.{list_any}
use Rattle.jsp_model.specs.declared.state.State.{State}
use Rattle.jsp_house.proofs.quieting.next_owed.Goals as goal

pub returns-clause-some : goal.returns-clause-some
returns-clause-some c =
    subst (λ (st : State). IfSome c.next_owed.result (λ n. IsTrue (list_any (λ r. r.number == n && (r.space == c.args.space && not (length r.owed == 0))) st.registrations))) c.state.view_is c.next_owed.ensures.some
