use Rattle.std.proofs.Common.{◌≡◌, true, false, eqb, cond, Some, None, ap, sym, subst, ◌∙◌}
use Rattle.std.specs.List.{filter_map}
use Rattle.jsp_model.specs.declared.state.Row.{Row}
use Rattle.jsp_table.specs.Numbers.{contains}
use Rattle.jsp_table.proofs.Finding.{each}
use Rattle.jsp_sight.specs.Deciding.{fate, committed_row, aborted_row}
use Rattle.jsp_index.specs.Holding.{listed, IsHeld, AreHeld}
use Rattle.jsp_index.proofs.Holders.{all_still_held}
use Rattle.jsp_index.proofs.Fates.{all_stay, unlisted_stays, keeps_all, held_applied, unnamed_settled, unnamed_undone}
use Rattle.jsp_index.proofs.hinted.HintedRows.apply.Goals as goal

pub invariant_of-self : goal.invariant_of-self
invariant_of-self c =
    let d = c.args.decision.now in
    let none : listed c.self.inside.holders d.transaction d.space ≡ None = sym c.in_default.ensures.taken in
    all_still_held c.self.inside.holders c.take_list.new.holders c.self.inside.rows (keeps_all c.self.inside.holders c.take_list.new.holders d.transaction d.space c.take_list.ensures.others none) c.self.invariant

pub returns-in_default : goal.returns-in_default
returns-in_default c =
    let d = c.args.decision.now in
    let none : listed c.self.inside.holders d.transaction d.space ≡ None = sym c.in_default.ensures.taken in
    sym (all_stay (IsHeld c.self.inside.holders) (fate d) c.self.inside.rows c.self.invariant (unlisted_stays c.self.inside.holders d none)) ∙ ap (filter_map (fate d)) c.self.view_is

pub revise_space-requires-clause-listed : goal.revise_space-requires-clause-listed
revise_space-requires-clause-listed c =
    let d = c.args.decision.now in
    let ns = c.in-Some.holding.numbers in
    each (IsHeld c.self.inside.holders) (λ (r : Row). eqb r.space c.in-Some.holding.space ≡ true → contains ns r.number ≡ false → committed_row d.transaction r ≡ Some r) c.self.inside.rows c.self.invariant
    (λ r h here. unnamed_settled c.self.inside.holders d.transaction d.space ns c.in-Some.ensures.taken r h (ap (eqb r.space) (sym c.in-Some.ensures.space) ∙ here))

pub revise_space-requires-else-decision-clause-listed : goal.revise_space-requires-else-decision-clause-listed
revise_space-requires-else-decision-clause-listed c =
    let d = c.args.decision.now in
    let ns = c.in-Some.holding.numbers in
    each (IsHeld c.self.inside.holders) (λ (r : Row). eqb r.space c.in-Some.holding.space ≡ true → contains ns r.number ≡ false → aborted_row d.transaction r ≡ Some r) c.self.inside.rows c.self.invariant
    (λ r h here. unnamed_undone c.self.inside.holders d.transaction d.space ns c.in-Some.ensures.taken r h (ap (eqb r.space) (sym c.in-Some.ensures.space) ∙ here))

pub invariant_of-self-then-decision : goal.invariant_of-self-then-decision
invariant_of-self-then-decision c =
    let d = c.args.decision.now in
    let applied = c.revise_space.ensures ∙ (ap (λ s. filter_map (λ (r : Row). cond (eqb r.space s) (committed_row d.transaction r) (Some r)) c.self.inside.rows) c.in-Some.ensures.space
    ∙ ap (λ b. filter_map (λ (r : Row). cond (eqb r.space d.space) (cond b (committed_row d.transaction r) (aborted_row d.transaction r)) (Some r)) c.self.inside.rows) (sym c.if-decision.true)) in
    subst (AreHeld c.take_list.new.holders) (sym applied) (held_applied c.self.inside.holders c.take_list.new.holders d c.take_list.ensures.others c.self.inside.rows c.self.invariant)

pub invariant_of-self-else-decision : goal.invariant_of-self-else-decision
invariant_of-self-else-decision c =
    let d = c.args.decision.now in
    let applied = c.revise_space-else-decision.ensures ∙ (ap (λ s. filter_map (λ (r : Row). cond (eqb r.space s) (aborted_row d.transaction r) (Some r)) c.self.inside.rows) c.in-Some.ensures.space
    ∙ ap (λ b. filter_map (λ (r : Row). cond (eqb r.space d.space) (cond b (committed_row d.transaction r) (aborted_row d.transaction r)) (Some r)) c.self.inside.rows) (sym c.if-decision.false)) in
    subst (AreHeld c.take_list.new.holders) (sym applied) (held_applied c.self.inside.holders c.take_list.new.holders d c.take_list.ensures.others c.self.inside.rows c.self.invariant)
