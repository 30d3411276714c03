use Rattle.std.proofs.Common.{◌≡◌, true, not, ◌||◌, ◌&&◌, ◌∙◌, ap, sym, subst, map, filter}
use Rattle.std.specs.List.{list_all}
use Rattle.jsp_model.specs.declared.state.Row.{Row}
use Rattle.jsp_model.specs.Lookup.{contains}
use Rattle.jsp_sight.specs.Rows.{is_of, is_held}
use Rattle.jsp_scan.proofs.Holding.{all_named}
use Rattle.jsp_scan.proofs.scanned.ScannedRows.held_by.Goals as goal

pub returns : goal.returns
returns c =
    let held = λ (r : Row). is_of c.args.space r && is_held c.args.x r in
    let rows = c.args.self.now in
    let found = c.in_ok-numbers.ensures ∙ ap (λ rows. map (λ r. r.number) (filter held rows)) (c.deref.ensures.value ∙ c.self.view_is) in
    subst (λ ns. list_all (λ (r : Row). not (held r) || contains ns r.number) rows ≡ true) (sym found) (all_named held rows)
