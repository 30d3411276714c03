use Rattle.std.proofs.Common.{◌≡◌, false, length, nat_lt, List, ap, sym, ◌∙◌}
use Rattle.std.specs.Prelude.{filter}
use Rattle.jsp_model.specs.declared.state.Row.{Row}
use Rattle.jsp_sight.specs.Rows.{shows}
use Rattle.jsp_decided.specs.Recording.{covers}
use Rattle.jsp_decided.proofs.RowsAfter.{seen_after}
use Rattle.jsp_decided.proofs.Flat.{passes_later}
use Rattle.jsp_decided.proofs.Spaces.{shown_within, count_later}
use Rattle.jsp_decided.proofs.decided.DecidedRows.shows_more.Goals as goal

pub returns-then-covers : goal.returns-then-covers
returns-then-covers c =
    let ds = c.args.self.now.recorded.items in
    let stored = c.args.self.now.stored in
    ap (nat_lt c.args.most) (c.count_at.ensures ∙ (ap (λ rows. length (filter (passes_later (shows c.args.classes.now c.args.set.now) c.deref-then-covers.result.now) rows)) c.places.ensures.rows
    ∙ (ap (λ ds. length (filter (passes_later (shows c.args.classes.now c.args.set.now) ds) stored)) c.deref-then-covers.ensures.value ∙ sym (count_later (shows c.args.classes.now c.args.set.now) ds stored))))

pub returns-else-covers : goal.returns-else-covers
returns-else-covers c =
    let ds = c.args.self.now.recorded.items in
    let stored = c.args.self.now.stored in
    let none : covers ds c.args.set.now.space ≡ false = sym (c.covers.ensures ∙ ap (λ ds. covers ds c.args.set.now.space) c.deref.ensures.value) ∙ c.if-covers.false in
    c.shows_more.ensures ∙ ap (λ (w : List Row). nat_lt c.args.most (length w)) (sym (seen_after (shows c.args.classes.now c.args.set.now) c.args.set.now.space (shown_within c.args.classes.now c.args.set.now) ds stored none))
