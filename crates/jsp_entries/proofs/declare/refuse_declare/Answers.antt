use Rattle.std.proofs.Common.{◌≡◌, ◌∙◌, ap, arith, length, subst, sym, Some, None}
use Rattle.std.specs.Prelude.{option_map}
use Rattle.jsp_types.specs.Classes.{class_fault}
use Rattle.jsp_model.specs.declared.state.State.{State}
use Rattle.jsp_model.specs.Requests.{class_asked}
use Rattle.jsp_entries.specs.Declaring.{refusal_of}
use Rattle.jsp_entries.proofs.Declaring.{declare_class, declare_many}
use Rattle.jsp_entries.proofs.declare.refuse_declare.Goals as goal

pub returns-then-fields-gt-MOST_FIELDS : goal.returns-then-fields-gt-MOST_FIELDS
returns-then-fields-gt-MOST_FIELDS c =
    sym (declare_many c.args.state.now c.args.declare.now (rw c.as_slice-fields.ensures at (sym c.lacks_kind.ensures ∙ c.if-lacks_kind.false))
    (omega (arith, c.if-fields-gt-MOST_FIELDS.true, ap length c.as_slice-fields.ensures)))

pub returns-in-None : goal.returns-in-None
returns-in-None c =
    let found = subst (λ (st : State). c.fault.result ≡ class_fault st.classes c.in_ok-class.class) c.state.view_is c.fault.ensures in
    let fault : class_fault c.args.state.now.classes (class_asked c.args.declare.now) ≡ None = ap (class_fault c.args.state.now.classes) (sym c.in_ok-class.ensures) ∙ (sym found ∙ c.in-None.is) in
    ap (option_map refusal_of) (sym fault) ∙ declare_class c.args.state.now c.args.declare.now (rw c.as_slice-fields.ensures at (sym c.lacks_kind.ensures ∙ c.if-lacks_kind.false))

pub returns : goal.returns
returns c =
    let found = subst (λ (st : State). c.fault.result ≡ class_fault st.classes c.in_ok-class.class) c.state.view_is c.fault.ensures in
    let fault : class_fault c.args.state.now.classes (class_asked c.args.declare.now) ≡ Some c.in-Some.fault = ap (class_fault c.args.state.now.classes) (sym c.in_ok-class.ensures) ∙ (sym found ∙ c.in-Some.is) in
    ap Some c.class_refusal.ensures ∙ (ap (option_map refusal_of) (sym fault) ∙ declare_class c.args.state.now c.args.declare.now (rw c.as_slice-fields.ensures at (sym c.lacks_kind.ensures ∙ c.if-lacks_kind.false)))
