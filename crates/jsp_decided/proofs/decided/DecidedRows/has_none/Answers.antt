use Rattle.std.proofs.Common.{◌≡◌, eqb, false, length, map, List, ℕ, ap, sym, ◌∙◌}
use Rattle.jsp_model.specs.declared.state.Row.{Row}
use Rattle.jsp_sight.specs.Rows.{offered}
use Rattle.jsp_decided.specs.Recording.{covers}
use Rattle.jsp_decided.proofs.RowsAfter.{seen_after}
use Rattle.jsp_decided.proofs.Spaces.{offered_within}
use Rattle.jsp_decided.proofs.decided.DecidedRows.has_none.Goals as goal

pub returns-else-covers : goal.returns-else-covers
returns-else-covers c =
    let ds = c.args.self.now.recorded.items in
    let stored = c.args.self.now.stored in
    let none : covers ds c.args.blocked.now.space ≡ false = sym (c.covers.ensures ∙ ap (λ ds. covers ds c.args.blocked.now.space) c.deref.ensures.value) ∙ c.if-covers.false in
    c.has_none.ensures ∙ ap (λ (w : List ℕ). eqb (length w) 0) (ap (map (λ (r : Row). r.number)) (sym (seen_after (offered c.args.classes.now c.args.blocked.now) c.args.blocked.now.space (offered_within c.args.classes.now c.args.blocked.now) ds stored none)))
