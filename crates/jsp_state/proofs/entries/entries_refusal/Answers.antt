use Rattle.std.proofs.Common.{◌≡◌, ◌∙◌, sym, subst}
use Rattle.std.specs.Prelude.{◌||◌}
use Rattle.std.specs.List.{list_any}
use Rattle.jsp_types.specs.Matching.{is_unknown, is_bad}
use Rattle.jsp_model.specs.declared.state.State.{State}
use Rattle.jsp_state.proofs.Fitting.{any_or, lacks_class, has_fault, has_none}
use Rattle.jsp_state.proofs.entries.entries_refusal.Goals as goal

pub returns-then-any_lacks_class : goal.returns-then-any_lacks_class
returns-then-any_lacks_class c =
    let lacks = subst (λ (st : State). c.any_lacks_class.result ≡ list_any (is_unknown st.classes) c.args.raws.now) c.state.view_is c.any_lacks_class.ensures in
    lacks_class _ _ (sym lacks ∙ c.if-any_lacks_class.true)

pub returns-then-any_has_fault : goal.returns-then-any_has_fault
returns-then-any_has_fault c =
    let classes = c.args.state.now.classes in
    let lacks = subst (λ (st : State). c.any_lacks_class.result ≡ list_any (is_unknown st.classes) c.args.raws.now) c.state.view_is c.any_lacks_class.ensures in
    let fault = subst (λ (st : State). c.any_has_fault.result ≡ list_any (λ raw. is_unknown st.classes raw || is_bad st.classes raw) c.args.raws.now) c.state.view_is c.any_has_fault.ensures in
    has_fault _ _ (sym lacks ∙ c.if-any_lacks_class.false) (sym (any_or (is_unknown classes) (is_bad classes) c.args.raws.now) ∙ (sym fault ∙ c.if-any_has_fault.true))

pub returns : goal.returns
returns c =
    let classes = c.args.state.now.classes in
    let fault = subst (λ (st : State). c.any_has_fault.result ≡ list_any (λ raw. is_unknown st.classes raw || is_bad st.classes raw) c.args.raws.now) c.state.view_is c.any_has_fault.ensures in
    has_none _ _ (sym (any_or (is_unknown classes) (is_bad classes) c.args.raws.now) ∙ (sym fault ∙ c.if-any_has_fault.false))
