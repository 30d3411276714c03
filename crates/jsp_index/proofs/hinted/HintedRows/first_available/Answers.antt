use Rattle.std.proofs.Common.{◌≡◌, Some, None, ap, sym, ◌∙◌, rules}
use Rattle.std.specs.Prelude.{find, option_map}
use Rattle.jsp_model.specs.declared.state.Row.{Row}
use Rattle.jsp_sight.specs.Rows.{offered}
use Rattle.jsp_index.specs.Finding.{number}
use Rattle.jsp_index.proofs.Single.{first_is}
use Rattle.jsp_keyed.proofs.Walking.{start_find}
use Rattle.jsp_index.proofs.hinted.HintedRows.first_available.Goals as goal

pub returns-in_err-row : goal.returns-in_err-row
returns-in_err-row c =
    let rows = c.args.self.now in
    let p = offered c.args.classes.now c.args.blocked.now in
    let none : find p rows ≡ None = sym (start_find number p rows c.first_sought.ensures.numbered.positive) ∙ sym c.in_err-row.ensures.found in
    let gone : c.from_residual.result ≡ None = search rules in
    gone ∙ (sym (ap (option_map (λ (r : Row). r.number)) none) ∙ first_is (λ (r : Row). r.number) p rows)

pub returns : goal.returns
returns c =
    let rows = c.args.self.now in
    let p = offered c.args.classes.now c.args.blocked.now in
    let there : find p rows ≡ Some c.in_ok-row.row.now = sym (start_find number p rows c.first_sought.ensures.numbered.positive) ∙ sym c.in_ok-row.ensures.found in
    sym (ap (option_map (λ (r : Row). r.number)) there) ∙ first_is (λ (r : Row). r.number) p rows
