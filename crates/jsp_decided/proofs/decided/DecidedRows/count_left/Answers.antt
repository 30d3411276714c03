use Rattle.std.proofs.Common.{◌≡◌, eqb, true, length, List, ap, sym, ◌∙◌}
use Rattle.std.specs.Prelude.{filter}
use Rattle.jsp_model.specs.declared.state.Row.{Row}
use Rattle.jsp_decided.specs.Recording.{rows_after, is_cleared}
use Rattle.jsp_decided.proofs.Flat.{passes_later}
use Rattle.jsp_decided.proofs.Resetting.{is_empty, none_passes}
use Rattle.jsp_decided.proofs.Spaces.{in_within, count_later}
use Rattle.jsp_decided.proofs.decided.DecidedRows.count_left.Goals as goal

pub returns-then-is_cleared : goal.returns-then-is_cleared
returns-then-is_cleared c =
    let ds = c.args.self.now.recorded.items in
    let stored = c.args.self.now.stored in
    let space = c.args.space in
    let cleared : is_cleared ds space ≡ true = sym (c.is_cleared.ensures ∙ ap (λ ds. is_cleared ds space) c.deref.ensures.value) ∙ c.if-is_cleared.true in
    sym (ap (λ (w : List Row). length w) (none_passes space (λ (r : Row). eqb r.space space) (in_within space) (rows_after ds stored) (is_empty space ds stored cleared)))

pub returns : goal.returns
returns c =
    let ds = c.args.self.now.recorded.items in
    let stored = c.args.self.now.stored in
    c.count_at.ensures ∙ (ap (λ rows. length (filter (passes_later (λ (r : Row). eqb r.space c.args.space) c.as_slice-recorded.result.now) rows)) c.places.ensures.rows
    ∙ (ap (λ ds. length (filter (passes_later (λ (r : Row). eqb r.space c.args.space) ds) stored)) c.as_slice-recorded.ensures.value ∙ sym (count_later (λ (r : Row). eqb r.space c.args.space) ds stored)))
