use Rattle.std.proofs.Common.{◌≡◌, ◌∙◌, None, ap, subst, sym}
use Rattle.jsp_types.specs.Classes.{class_fault}
use Rattle.jsp_model.specs.declared.state.State.{State}
use Rattle.jsp_entries.proofs.Declaring.{declare_good}
use Rattle.jsp_entries.proofs.declare.accept_declare.Goals as goal

pub add-requires : goal.add-requires
add-requires c =
    subst (λ (st : State). class_fault st.classes c.in_ok-class.class ≡ None) (sym c.state.view_is)
    (ap (class_fault c.args.state.now.classes) c.in_ok-class.ensures ∙ declare_good c.args.state.now c.args.declare.now c.requires)
