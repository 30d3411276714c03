use Rattle.std.proofs.Common.{sym, subst}
use Rattle.jsp_model.specs.Requests.{RowRequest, many_rows}
use Rattle.jsp_state.specs.Fitting.{AllFit}
use Rattle.jsp_entries.proofs.Searching.{templates_fit}
use Rattle.jsp_entries.proofs.requests.want_many.Goals as goal

pub want-requires-clause-templates : goal.want-requires-clause-templates
want-requires-clause-templates c =
    subst (λ (q : RowRequest). AllFit c.args.state.now.classes q.templates) (sym c.many_rows-asked.ensures)
    (templates_fit c.args.state.now c.args.session c.args.id (many_rows c.args.search.now) c.requires.accepted)
