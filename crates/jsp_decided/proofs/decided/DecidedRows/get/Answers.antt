use Rattle.std.proofs.Common.{ap, sym, ◌∙◌}
use Rattle.std.specs.Prelude.{option_map}
use Rattle.std.specs.Option.{option_and_then}
use Rattle.jsp_decided.specs.Decided.{row_after}
use Rattle.jsp_sight.specs.Rows.{unmarked}
use Rattle.jsp_decided.proofs.Flat.{found_later}
use Rattle.jsp_decided.proofs.decided.DecidedRows.get.Goals as goal

pub returns-in-None : goal.returns-in-None
returns-in-None c =
    let ds = c.args.self.now.recorded.items in
    sym (ap (option_map unmarked) (found_later ds c.args.number c.args.self.now.stored c.places.ensures.numbered.rising ∙ ap (option_and_then (row_after ds)) (sym c.in-None.ensures)))

pub returns-in-Some : goal.returns-in-Some
returns-in-Some c =
    let ds = c.args.self.now.recorded.items in
    c.left_of.ensures ∙ (ap (λ ds. option_map unmarked (row_after ds c.in-Some.row.now)) c.deref.ensures.value
    ∙ sym (ap (option_map unmarked) (found_later ds c.args.number c.args.self.now.stored c.places.ensures.numbered.rising ∙ ap (option_and_then (row_after ds)) (sym c.in-Some.ensures))))
