use Rattle.std.proofs.Common.{◌≡◌, None, rules, subst, sym}
use Rattle.jsp_types.specs.Matching.{template_fault}
use Rattle.jsp_model.specs.declared.state.State.{State}
use Rattle.jsp_grants.proofs.registration.new_registration.Goals as goal

pub template_of-requires : goal.template_of-requires
template_of-requires c =
    let fits : template_fault c.args.state.now.classes c.args.notify.now.template ≡ None = search rules in
    subst (λ (st : State). template_fault st.classes c.args.notify.now.template ≡ None) (sym c.state.view_is) fits
