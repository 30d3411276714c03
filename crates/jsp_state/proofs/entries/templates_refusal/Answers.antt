use Rattle.std.proofs.Common.{◌≡◌, ◌∙◌, false, sym, subst}
use Rattle.std.specs.Prelude.{◌||◌}
use Rattle.std.specs.List.{list_any}
use Rattle.std.specs.Option.{option_map_or}
use Rattle.jsp_types.specs.Matching.{is_unknown, is_bad}
use Rattle.jsp_model.specs.declared.state.State.{State}
use Rattle.jsp_state.proofs.Fitting.{any_given, either_given, lacks_class, has_fault, has_none}
use Rattle.jsp_state.proofs.entries.templates_refusal.Goals as goal

pub returns-then-any_template_lacks_class : goal.returns-then-any_template_lacks_class
returns-then-any_template_lacks_class c =
    let classes = c.args.state.now.classes in
    let lacks = subst (λ (st : State). c.any_template_lacks_class.result ≡ list_any (λ t. option_map_or (is_unknown st.classes) t false) c.args.templates.now) c.state.view_is c.any_template_lacks_class.ensures in
    lacks_class _ _ (any_given (is_unknown classes) c.args.templates.now ∙ (sym lacks ∙ c.if-any_template_lacks_class.true))

pub returns-then-any_template_has_fault : goal.returns-then-any_template_has_fault
returns-then-any_template_has_fault c =
    let classes = c.args.state.now.classes in
    let lacks = subst (λ (st : State). c.any_template_lacks_class.result ≡ list_any (λ t. option_map_or (is_unknown st.classes) t false) c.args.templates.now) c.state.view_is c.any_template_lacks_class.ensures in
    let fault = subst (λ (st : State). c.any_template_has_fault.result ≡ list_any (λ t. option_map_or (λ raw. is_unknown st.classes raw || is_bad st.classes raw) t false) c.args.templates.now) c.state.view_is c.any_template_has_fault.ensures in
    has_fault _ _ (any_given (is_unknown classes) c.args.templates.now ∙ (sym lacks ∙ c.if-any_template_lacks_class.false))
    (sym (either_given (is_unknown classes) (is_bad classes) c.args.templates.now) ∙ (sym fault ∙ c.if-any_template_has_fault.true))

pub returns : goal.returns
returns c =
    let classes = c.args.state.now.classes in
    let fault = subst (λ (st : State). c.any_template_has_fault.result ≡ list_any (λ t. option_map_or (λ raw. is_unknown st.classes raw || is_bad st.classes raw) t false) c.args.templates.now) c.state.view_is c.any_template_has_fault.ensures in
    has_none _ _ (sym (either_given (is_unknown classes) (is_bad classes) c.args.templates.now) ∙ (sym fault ∙ c.if-any_template_has_fault.false))
