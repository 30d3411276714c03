use Rattle.std.proofs.Common.{false, ap, sym, ◌∙◌}
use Rattle.std.specs.Option.{option_map_or, option_and_then}
use Rattle.jsp_sight.specs.Rows.{offered}
use Rattle.jsp_decided.specs.Decided.{row_after}
use Rattle.jsp_decided.proofs.Flat.{found_later, passes_later}
use Rattle.jsp_decided.proofs.decided.DecidedRows.is_available.Goals as goal

pub returns-in-None : goal.returns-in-None
returns-in-None c =
    let ds = c.args.self.now.recorded.items in
    let p = offered c.args.classes.now c.args.blocked.now in
    sym (ap (λ o. option_map_or p o false) (found_later ds c.args.number c.args.self.now.stored c.places.ensures.numbered.rising ∙ ap (option_and_then (row_after ds)) (sym c.in-None.ensures)))

pub returns-in-Some : goal.returns-in-Some
returns-in-Some c =
    let ds = c.args.self.now.recorded.items in
    let p = offered c.args.classes.now c.args.blocked.now in
    c.is_available.ensures ∙ (ap (λ ds. passes_later p ds c.in-Some.row.now) c.deref.ensures.value
    ∙ sym (ap (λ o. option_map_or p o false) (found_later ds c.args.number c.args.self.now.stored c.places.ensures.numbered.rising ∙ ap (option_and_then (row_after ds)) (sym c.in-Some.ensures))))
