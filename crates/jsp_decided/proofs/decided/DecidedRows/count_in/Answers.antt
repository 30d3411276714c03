use Rattle.std.proofs.Common.{◌≡◌, eqb, false, length, List, ap, sym, ◌∙◌}
use Rattle.jsp_model.specs.declared.state.Row.{Row}
use Rattle.jsp_decided.specs.Recording.{covers}
use Rattle.jsp_decided.proofs.RowsAfter.{seen_after}
use Rattle.jsp_decided.proofs.Spaces.{in_within}
use Rattle.jsp_decided.proofs.decided.DecidedRows.count_in.Goals as goal

pub returns-else-covers : goal.returns-else-covers
returns-else-covers c =
    let ds = c.args.self.now.recorded.items in
    let stored = c.args.self.now.stored in
    let none : covers ds c.args.space ≡ false = sym (c.covers.ensures ∙ ap (λ ds. covers ds c.args.space) c.deref.ensures.value) ∙ c.if-covers.false in
    c.count_in.ensures ∙ ap (λ (w : List Row). length w) (sym (seen_after (λ (r : Row). eqb r.space c.args.space) c.args.space (in_within c.args.space) ds stored none))
