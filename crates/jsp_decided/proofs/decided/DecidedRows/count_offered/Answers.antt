use Rattle.std.proofs.Common.{◌≡◌, ℕ, true, length, map, List, ap, sym, ◌∙◌}
use Rattle.std.specs.Prelude.{filter}
use Rattle.std.proofs.lemmas.List.{length-map}
use Rattle.jsp_model.specs.declared.state.Row.{Row}
use Rattle.jsp_sight.specs.Rows.{offered}
use Rattle.jsp_decided.specs.Recording.{rows_after, is_cleared}
use Rattle.jsp_decided.proofs.Flat.{passes_later}
use Rattle.jsp_decided.proofs.Resetting.{is_empty, none_passes}
use Rattle.jsp_decided.proofs.Spaces.{offered_within, count_later}
use Rattle.jsp_decided.proofs.decided.DecidedRows.count_offered.Goals as goal

pub returns-then-is_cleared : goal.returns-then-is_cleared
returns-then-is_cleared c =
    let ds = c.args.self.now.recorded.items in
    let stored = c.args.self.now.stored in
    let blocked = c.args.blocked.now in
    let p = offered c.args.classes.now blocked in
    let cleared : is_cleared ds blocked.space ≡ true = sym (c.is_cleared.ensures ∙ ap (λ ds. is_cleared ds blocked.space) c.deref.ensures.value) ∙ c.if-is_cleared.true in
    sym (ap (λ (w : List Row). length (map (λ (r : Row). r.number) w)) (none_passes blocked.space p (offered_within c.args.classes.now blocked) (rows_after ds stored) (is_empty blocked.space ds stored cleared)))

pub returns : goal.returns
returns c =
    let ds = c.args.self.now.recorded.items in
    let stored = c.args.self.now.stored in
    c.count_at.ensures ∙ (ap (λ rows. length (filter (passes_later (offered c.args.classes.now c.args.blocked.now) c.deref-2.result.now) rows)) c.places.ensures.rows
    ∙ (ap (λ ds. length (filter (passes_later (offered c.args.classes.now c.args.blocked.now) ds) stored)) c.deref-2.ensures.value
    ∙ (sym (count_later (offered c.args.classes.now c.args.blocked.now) ds stored) ∙ sym (length-map (filter (offered c.args.classes.now c.args.blocked.now) (rows_after ds stored)) (λ (r : Row). r.number)))))
