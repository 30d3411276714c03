use Rattle.jsp_floor.proofs.served.Served.add_short.Goals as goal

pub returns : goal.returns
returns g c = (c.short_report.result, c.short_report.ensures.session, c.short_report.ensures.is_whole, c.add_report-2.ensures)
