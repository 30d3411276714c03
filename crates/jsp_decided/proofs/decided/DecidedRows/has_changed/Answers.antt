use Rattle.std.proofs.Common.{◌≡◌, ◌&&◌, ◌||◌, eqb, false, ap, sym, ◌∙◌}
use Rattle.std.specs.List.{list_any}
use Rattle.jsp_model.specs.declared.state.Row.{Row}
use Rattle.jsp_model.specs.Lookup.{is_caller}
use Rattle.jsp_decided.specs.Recording.{covers}
use Rattle.jsp_decided.proofs.Flat.{passes_later, any_later}
use Rattle.jsp_decided.proofs.Spaces.{changed_within, any_seen}
use Rattle.jsp_decided.proofs.decided.DecidedRows.has_changed.Goals as goal

pub returns-then-covers : goal.returns-then-covers
returns-then-covers c =
    let ds = c.args.self.now.recorded.items in
    let stored = c.args.self.now.stored in
    c.any_at.ensures ∙ (ap (list_any (passes_later (λ (r : Row). eqb r.space c.args.space && (is_caller r.writer c.args.x || is_caller r.taker c.args.x)) c.deref-then-covers.result.now)) c.places.ensures.rows ∙ (ap (λ ds. list_any (passes_later (λ (r : Row). eqb r.space c.args.space && (is_caller r.writer c.args.x || is_caller r.taker c.args.x)) ds) stored) c.deref-then-covers.ensures.value ∙ sym (any_later (λ (r : Row). eqb r.space c.args.space && (is_caller r.writer c.args.x || is_caller r.taker c.args.x)) ds stored)))

pub returns-else-covers : goal.returns-else-covers
returns-else-covers c =
    let ds = c.args.self.now.recorded.items in
    let stored = c.args.self.now.stored in
    let none : covers ds c.args.space ≡ false = sym (c.covers.ensures ∙ ap (λ ds. covers ds c.args.space) c.deref.ensures.value) ∙ c.if-covers.false in
    c.has_changed.ensures ∙ any_seen (λ (r : Row). eqb r.space c.args.space && (is_caller r.writer c.args.x || is_caller r.taker c.args.x)) c.args.space (changed_within c.args.x c.args.space) ds stored none
