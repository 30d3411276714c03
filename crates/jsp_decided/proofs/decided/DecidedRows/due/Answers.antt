use Rattle.std.proofs.Common.{true, map, ap, sym, ◌∙◌}
use Rattle.std.specs.Prelude.{filter}
use Rattle.jsp_lease.specs.Due.{first_item, over_by}
use Rattle.jsp_sight.specs.Rows.{row_end}
use Rattle.jsp_decided.proofs.Ends.{none_later, first_later, is_over, left_ends}
use Rattle.jsp_decided.proofs.Flat.{passes_later}
use Rattle.jsp_decided.proofs.decided.DecidedRows.due.Goals as goal

pub returns-in_default : goal.returns-in_default
returns-in_default c = none_later c.args.time c.args.self.now.recorded.items c.args.self.now.stored (sym c.in_default.ensures)

pub returns-then-has : goal.returns-then-has
returns-then-has c =
    let stored = c.args.self.now.stored in
    first_later c.args.time c.in-Some.item (is_over c.args.time stored c.in-Some.item (sym c.in-Some.ensures)) c.args.self.now.recorded.items stored (sym c.in-Some.ensures) c.places.ensures.numbered.rising (sym c.has.ensures ∙ c.if-has.true)

pub returns : goal.returns
returns c =
    let ds = c.args.self.now.recorded.items in
    let stored = c.args.self.now.stored in
    c.due_of.ensures ∙ (ap (λ ds. first_item (over_by c.args.time (map row_end (filter (passes_later (λ _. true) ds) stored)))) c.as_slice-recorded.ensures.value
    ∙ ap (λ items. first_item (over_by c.args.time items)) (left_ends ds stored))
