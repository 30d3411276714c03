use Rattle.std.proofs.Common.{◌≡◌, false, subst}
use Rattle.std.specs.List.{list_any}
use Rattle.jsp_model.specs.declared.state.State.{State}
use Rattle.jsp_model.specs.declared.state.Blocked.{Blocked}
use Rattle.jsp_model.specs.Sight.{is_if}
use Rattle.jsp_quiet.specs.Freeing.{ends_conflict}
use Rattle.jsp_machine.proofs.Stirred.{any_named, none_to_name, not_any}
use Rattle.jsp_machine.proofs.stirring.stir.Goals as goal

pub returns-then-ends_any-clause-stirred : goal.returns-then-ends_any-clause-stirred
returns-then-ends_any-clause-stirred c = any_named (ends_conflict c.args.state.now c.args.step.now) c.args.state.now c.open.new.self c.open.ensures

pub returns-else-not-are_all_patient-clause-stirred : goal.returns-else-not-are_all_patient-clause-stirred
returns-else-not-are_all_patient-clause-stirred c =
    let none = not_any c.are_all_patient.result (list_any (λ (b : Blocked). is_if b.form) c.state.inside.blocked) c.are_all_patient.ensures c.if-not-are_all_patient.false in
    none_to_name (ends_conflict c.args.state.now c.args.step.now) c.args.state.now c.args.stirred.now (subst (λ (st : State). list_any (λ (b : Blocked). is_if b.form) st.blocked ≡ false) c.state.view_is none)
