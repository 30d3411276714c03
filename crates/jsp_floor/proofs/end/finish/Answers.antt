use Rattle.std.proofs.Common.{List, ap, subst}
use Rattle.std.proofs.lemmas.Result.{IfOk-weaker}
use Rattle.jsp_closing.specs.Closing.{IsOf}
use Rattle.jsp_closing.specs.declared.closed.LineReport.{LineReport}
use Rattle.jsp_floor.specs.Served.{Answered}
use Rattle.jsp_floor.proofs.Coming.{come_through}
use Rattle.jsp_floor.proofs.end.finish.Goals as goal

pub returns-in-Ok-clause-finishes : goal.returns-in-Ok-clause-finishes
returns-in-Ok-clause-finishes g c =
    let reports = ap (λ (a : Answered). a.reports) c.served.view_is in
    IfOk-weaker c.close.result _ _
    (λ closed h. record {
      era = c.in-Ok.era;
      ends = c.in-Ok.ensures.ends;
      same = subst (λ (rs : List LineReport). IsOf c.in-Ok.era rs closed) reports h;
    })
    c.close.ensures.same

pub returns-in-Ok-clause-comes : goal.returns-in-Ok-clause-comes
returns-in-Ok-clause-comes g c =
    IfOk-weaker c.close.result _ _
    (λ closed h. come_through g.D.Door.gives g.R.Read.remaining g.W.Write.contents c.in-Ok.era c.served.inside.reports.items closed c.served.invariant h)
    c.close.ensures.same
