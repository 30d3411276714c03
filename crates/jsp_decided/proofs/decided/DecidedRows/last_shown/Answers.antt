use Rattle.std.proofs.Common.{◌≡◌, false, ℕ, None, List, map, take, ap, sym, ◌∙◌}
use Rattle.std.specs.Prelude.{filter}
use Rattle.std.specs.List.{last_or}
use Rattle.jsp_model.specs.declared.state.Row.{Row}
use Rattle.jsp_sight.specs.Rows.{shows}
use Rattle.jsp_decided.specs.Recording.{covers, rows_after}
use Rattle.jsp_index.proofs.Walks.{map_take}
use Rattle.jsp_decided.proofs.RowsAfter.{seen_after}
use Rattle.jsp_decided.proofs.Marks.{keys_after}
use Rattle.jsp_decided.proofs.Flat.{passes_later, passing_later}
use Rattle.jsp_decided.proofs.Spaces.{shown_within}
use Rattle.jsp_decided.proofs.decided.DecidedRows.last_shown.Goals as goal

pub returns-then-covers : goal.returns-then-covers
returns-then-covers c =
    let ds = c.args.self.now.recorded.items in
    let stored = c.args.self.now.stored in
    let p = shows c.args.classes.now c.args.set.now in
    let number : Row → ℕ = λ (r : Row). r.number in
    c.last_at.ensures ∙ (ap (λ rows. last_or None (map number (take c.args.most (filter (passes_later p c.deref-then-covers.result.now) rows)))) c.places.ensures.rows
    ∙ (ap (λ ds. last_or None (map number (take c.args.most (filter (passes_later p ds) stored)))) c.deref-then-covers.ensures.value
    ∙ ap (last_or None) (map_take number c.args.most (filter (passes_later p ds) stored)
    ∙ (ap (take c.args.most) (sym (passing_later number (λ ds r s is. (keys_after ds r s is).number) p ds stored)) ∙ sym (map_take number c.args.most (filter p (rows_after ds stored)))))))

pub returns-else-covers : goal.returns-else-covers
returns-else-covers c =
    let ds = c.args.self.now.recorded.items in
    let stored = c.args.self.now.stored in
    let none : covers ds c.args.set.now.space ≡ false = sym (c.covers.ensures ∙ ap (λ ds. covers ds c.args.set.now.space) c.deref.ensures.value) ∙ c.if-covers.false in
    c.last_shown.ensures ∙ ap (λ (w : List Row). last_or None (map (λ (r : Row). r.number) (take c.args.most w))) (sym (seen_after (shows c.args.classes.now c.args.set.now) c.args.set.now.space (shown_within c.args.classes.now c.args.set.now) ds stored none))
