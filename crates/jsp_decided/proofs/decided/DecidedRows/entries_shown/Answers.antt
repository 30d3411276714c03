use Rattle.std.proofs.Common.{◌≡◌, false, map, take, List, ap, sym, ◌∙◌}
use Rattle.std.proofs.lemmas.Result.{IfOk-weaker}
use Rattle.jsp_model.specs.declared.state.Row.{Row}
use Rattle.jsp_sight.specs.Rows.{shows}
use Rattle.jsp_decided.specs.Recording.{covers}
use Rattle.jsp_decided.proofs.RowsAfter.{seen_after}
use Rattle.jsp_decided.proofs.Spaces.{shown_within}
use Rattle.jsp_decided.proofs.decided.DecidedRows.entries_shown.Goals as goal

pub returns-else-covers : goal.returns-else-covers
returns-else-covers c =
    let ds = c.args.self.now.recorded.items in
    let stored = c.args.self.now.stored in
    let none : covers ds c.args.set.now.space ≡ false = sym (c.covers.ensures ∙ ap (λ ds. covers ds c.args.set.now.space) c.deref.ensures.value) ∙ c.if-covers.false in
    IfOk-weaker c.entries_shown-else-covers.result _ _
    (λ es is. is ∙ ap (λ (w : List Row). map (λ (r : Row). r.entry) (take c.args.most w)) (sym (seen_after (shows c.args.classes.now c.args.set.now) c.args.set.now.space (shown_within c.args.classes.now c.args.set.now) ds stored none))) c.entries_shown-else-covers.ensures
