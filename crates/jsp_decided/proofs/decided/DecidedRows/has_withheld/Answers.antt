use Rattle.std.proofs.Common.{◌≡◌, true, [], ap, sym, ◌∙◌}
use Rattle.std.specs.List.{list_any}
use Rattle.jsp_sight.specs.Rows.{held}
use Rattle.jsp_decided.specs.Recording.{rows_after, is_cleared}
use Rattle.jsp_decided.proofs.Flat.{passes_later, any_later}
use Rattle.jsp_decided.proofs.Resetting.{is_empty, none_passes}
use Rattle.jsp_decided.proofs.Spaces.{held_within, any_two}
use Rattle.jsp_decided.proofs.decided.DecidedRows.has_withheld.Goals as goal

pub returns-then-is_cleared : goal.returns-then-is_cleared
returns-then-is_cleared c =
    let ds = c.args.self.now.recorded.items in
    let stored = c.args.self.now.stored in
    let blocked = c.args.blocked.now in
    let p = held c.args.classes.now blocked in
    let cleared : is_cleared ds blocked.space ≡ true = sym (c.is_cleared.ensures ∙ ap (λ ds. is_cleared ds blocked.space) c.deref.ensures.value) ∙ c.if-is_cleared.true in
    any_two p [] (rows_after ds stored) (sym (none_passes blocked.space p (held_within c.args.classes.now blocked) (rows_after ds stored) (is_empty blocked.space ds stored cleared)))

pub returns : goal.returns
returns c =
    let ds = c.args.self.now.recorded.items in
    let stored = c.args.self.now.stored in
    let p = held c.args.classes.now c.args.blocked.now in
    c.any_at.ensures ∙ (ap (list_any (passes_later p c.deref-2.result.now)) c.places.ensures.rows ∙ (ap (λ ds. list_any (passes_later p ds) stored) c.deref-2.ensures.value ∙ sym (any_later p ds stored)))
