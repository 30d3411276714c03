use Rattle.std.proofs.Common.{◌≡◌, ◌∙◌, ℕ, List, ap, subst}
use Rattle.std.specs.Prelude.{Option}
use Rattle.jsp_closing.specs.declared.closed.LineReport.{LineReport}
use Rattle.jsp_closing.specs.declared.closed.RunFault.{RunFault}
use Rattle.jsp_floor.specs.Served.{AddsShort, noted_stop}
use Rattle.jsp_floor.specs.Doors.{MayCome}
use Rattle.jsp_floor.proofs.Coming.{same_report}
use Rattle.jsp_floor.proofs.served.Served.add_line.Goals as goal

-- what stood before is named otherwise
adds_short : (old old' new : List LineReport) (f f' g : Option RunFault) (s s' : ℕ) → old ≡ old' → f ≡ f' → s ≡ s' → AddsShort old new f g s → AddsShort old' new f' g s'
adds_short old old' new f f' g s s' reports fault session h = rw (← reports, ← fault, ← session) h

pub returns-in-None-clause-dropped : goal.returns-in-None-clause-dropped
returns-in-None-clause-dropped g c = λ not_sealed dropped.
    adds_short _ _ _ _ _ _ _ _
    (c.stop-2.ensures.reports ∙ c.stop.ensures.reports)
    (c.stop-2.ensures.fault ∙ ap (λ (f : Option RunFault). noted_stop f c.args.done.why) c.stop.ensures.fault)
    c.session-session.ensures
    c.add_short.ensures

pub add_report-requires : goal.add_report-requires
add_report-requires g c =
    let line = c.in-Some.report in
    let is = c.in-Some.ensures in
    subst (MayCome g.D.Door.gives g.R.Read.remaining g.W.Write.contents)
    (same_report line _ _ _ _ _ _ is.session (is.is_whole ∙ c.has_found_memory-is_whole.ensures) is.ended is.read_failed is.write_failed (is.shut_by_house ∙ c.is_some.ensures))
    (c.requires line.read line.written is.read is.written)
