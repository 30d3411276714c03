use Rattle.std.proofs.Common.{◌≡◌, false, map, take, List, ℕ, ap, sym, ◌∙◌}
use Rattle.std.proofs.lemmas.Result.{IfOk-weaker}
use Rattle.jsp_model.specs.declared.state.Row.{Row}
use Rattle.jsp_sight.specs.Rows.{offered}
use Rattle.jsp_decided.specs.Recording.{covers}
use Rattle.jsp_decided.proofs.RowsAfter.{seen_after}
use Rattle.jsp_decided.proofs.Spaces.{offered_within}
use Rattle.jsp_decided.proofs.decided.DecidedRows.choose.Goals as goal

pub returns-else-covers : goal.returns-else-covers
returns-else-covers c =
    let ds = c.args.self.now.recorded.items in
    let stored = c.args.self.now.stored in
    let none : covers ds c.args.blocked.now.space ≡ false = sym (c.covers.ensures ∙ ap (λ ds. covers ds c.args.blocked.now.space) c.deref.ensures.value) ∙ c.if-covers.false in
    IfOk-weaker c.choose-else-covers.result _ _ (λ ns is. is ∙ ap (λ (w : List ℕ). take c.args.blocked.now.most w) (ap (map (λ (r : Row). r.number)) (sym (seen_after (offered c.args.classes.now c.args.blocked.now) c.args.blocked.now.space (offered_within c.args.classes.now c.args.blocked.now) ds stored none)))) c.choose-else-covers.ensures
