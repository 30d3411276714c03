use Rattle.std.proofs.Common.{◌≡◌, true, false, eqb, cond, Option, Some, refl, ap, sym, ◌∙◌}
use Rattle.std.specs.List.{filter_map}
use Rattle.jsp_model.specs.declared.state.Row.{Row}
use Rattle.jsp_model.specs.Lookup.{is_caller}
use Rattle.jsp_sight.specs.Rows.{settled, undone}
use Rattle.jsp_index.proofs.Holders.{settled_keys, undone_keys}
use Rattle.jsp_index.proofs.Listed.{alike, local_is, local_keys}
use Rattle.jsp_index.proofs.deciding.apply_at.Goals as goal

pub revise-requires : goal.revise-requires
revise-requires c = local_keys (λ (r : Row). is_caller r.taker c.args.decision.now.transaction) (settled c.args.decision.now.transaction) c.args.decision.now.space (settled_keys c.args.decision.now.transaction)

pub revise-requires-else-decision : goal.revise-requires-else-decision
revise-requires-else-decision c = local_keys (λ (r : Row). is_caller r.writer c.args.decision.now.transaction) (undone c.args.decision.now.transaction) c.args.decision.now.space (undone_keys c.args.decision.now.transaction)

pub returns-then-decision : goal.returns-then-decision
returns-then-decision c =
    let d = c.args.decision.now in
    c.revise.ensures ∙ alike _ _ c.args.rows.now (λ r. ap (λ o. cond (eqb r.number c.args.number) o (Some r)) (local_is (λ (r : Row). is_caller r.taker d.transaction) (settled d.transaction) d.space r ∙ rw c.if-decision.true refl))

pub returns-else-decision : goal.returns-else-decision
returns-else-decision c =
    let d = c.args.decision.now in
    c.revise-else-decision.ensures ∙ alike _ _ c.args.rows.now (λ r. ap (λ o. cond (eqb r.number c.args.number) o (Some r)) (local_is (λ (r : Row). is_caller r.writer d.transaction) (undone d.transaction) d.space r ∙ rw c.if-decision.false refl))
