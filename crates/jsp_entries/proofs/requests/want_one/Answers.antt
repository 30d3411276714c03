use Rattle.std.proofs.Common.{sym, subst}
use Rattle.jsp_model.specs.Requests.{RowRequest, one_row}
use Rattle.jsp_state.specs.Fitting.{AllFit}
use Rattle.jsp_entries.proofs.Searching.{templates_fit}
use Rattle.jsp_entries.proofs.requests.want_one.Goals as goal

pub want-requires-clause-templates : goal.want-requires-clause-templates
want-requires-clause-templates c =
    subst (λ (q : RowRequest). AllFit c.args.state.now.classes q.templates) (sym c.one_row-asked.ensures)
    (templates_fit c.args.state.now c.args.session c.args.id (one_row c.args.form c.args.search.now) c.requires.accepted)
