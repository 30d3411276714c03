use Rattle.std.proofs.Common.{Some, None, ap, sym, ◌∙◌}
use Rattle.std.specs.Prelude.{option_map}
use Rattle.jsp_model.specs.declared.state.Row.{Row}
use Rattle.jsp_decided.specs.Decided.{row_after}
use Rattle.jsp_decided.specs.Left.{marks_of}
use Rattle.jsp_decided.proofs.Marks.{written_after, gone_written}
use Rattle.jsp_decided.proofs.Numbered.{any_named_later}
use Rattle.jsp_decided.proofs.decided.DecidedRows.is_written.Goals as goal

pub returns-in-None : goal.returns-in-None
returns-in-None g c = λ p says. any_named_later (λ (r : Row). p r.writer) c.args.number c.args.self.now.recorded.items c.args.self.now.stored c.places.ensures.numbered.rising None c.in-None.ensures

pub returns-in-None-left_after : goal.returns-in-None-left_after
returns-in-None-left_after g c = λ p says.
    let ds = c.args.self.now.recorded.items in
    let row = c.in-Some.row.now in
    gone_written (row_after ds row) (λ (r : Row). p r.writer) (ap (λ ds. option_map marks_of (row_after ds row)) (sym c.deref.ensures.value) ∙ sym c.in-None-left_after.ensures)
    ∙ any_named_later (λ (r : Row). p r.writer) c.args.number ds c.args.self.now.stored c.places.ensures.numbered.rising (Some row) c.in-Some.ensures

pub returns : goal.returns
returns g c = λ p says.
    let ds = c.args.self.now.recorded.items in
    let row = c.in-Some.row.now in
    let left = c.in-Some-left_after.left in
    says left.writer c.test.result (record { met = c.test.ensures })
    ∙ (written_after ds row left (ap (λ ds. option_map marks_of (row_after ds row)) (sym c.deref.ensures.value) ∙ sym c.in-Some-left_after.ensures) p
    ∙ any_named_later (λ (r : Row). p r.writer) c.args.number ds c.args.self.now.stored c.places.ensures.numbered.rising (Some row) c.in-Some.ensures)
