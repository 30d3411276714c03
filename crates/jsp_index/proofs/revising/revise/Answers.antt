use Rattle.std.proofs.Common.{sym, ◌∙◌}
use Rattle.jsp_index.proofs.Revisions.{none_at, goes_at, stays_at}
use Rattle.jsp_index.proofs.revising.revise.Goals as goal

pub returns-in_default : goal.returns-in_default
returns-in_default g c =
    none_at (g.R.Revision.is_gone c.args.revision.now) (g.R.Change.changed c.args.revision.now) c.args.number c.args.rows.now (sym c.in_default.ensures.found)

pub returns-then-goes : goal.returns-then-goes
returns-then-goes g c =
    c.remove.ensures ∙ goes_at (g.R.Revision.is_gone c.args.revision.now) (g.R.Change.changed c.args.revision.now) c.args.number c.args.rows.now c.in-Some.row.now c.in-Some.ensures.numbered.rising (sym c.in-Some.ensures.found) (sym c.goes.ensures ∙ c.if-goes.true)

pub returns-else-goes : goal.returns-else-goes
returns-else-goes g c =
    c.change.ensures ∙ stays_at (g.R.Revision.is_gone c.args.revision.now) (g.R.Change.changed c.args.revision.now) c.args.number c.args.rows.now c.in-Some.row.now c.in-Some.ensures.numbered.rising (sym c.in-Some.ensures.found) (sym c.goes.ensures ∙ c.if-goes.false)
