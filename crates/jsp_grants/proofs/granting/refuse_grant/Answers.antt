use Rattle.std.proofs.Common.{◌∷◌, [], ◌∙◌, sym}
use Rattle.jsp_model.specs.Refusals.{space_tests, template_tests}
use Rattle.jsp_state.proofs.Testing.{found_in_front, found_in_second}
use Rattle.jsp_grants.specs.Granting.{own_tests}
use Rattle.jsp_grants.proofs.granting.refuse_grant.Goals as goal

pub returns-in-Some : goal.returns-in-Some
returns-in-Some c =
    let st = c.args.state.now in
    let q = c.args.asked.now in
    found_in_front (space_tests st q.space.now q.txn) (template_tests st (q.template.now ∷ [])) (own_tests st q.lease c.args.is_full) c.in-Some.refusal (sym c.space_refusal.ensures ∙ c.in-Some.is)

pub returns-in-Some-templates_refusal : goal.returns-in-Some-templates_refusal
returns-in-Some-templates_refusal c =
    let st = c.args.state.now in
    let q = c.args.asked.now in
    found_in_second (space_tests st q.space.now q.txn) (template_tests st (q.template.now ∷ [])) (own_tests st q.lease c.args.is_full) c.in-Some-templates_refusal.refusal (sym c.space_refusal.ensures ∙ c.in_default.is)
    (rw c.from_ref.ensures.value at (sym c.templates_refusal.ensures ∙ c.in-Some-templates_refusal.is))
