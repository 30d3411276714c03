use Rattle.std.proofs.Common.{◌≡◌, ◌++◌, take}
use Rattle.std.specs.List.{flat_map}
use Rattle.jsp_status.specs.Chart.{chart_text}
use Rattle.jsp_status.proofs.page.push_charts.Given as goal

abbrev pub invariant-charts : goal.invariant-charts
invariant-charts l =
    l.page.items ≡ l.initial.page.items ++ flat_map chart_text (take l.chart-index l.charts)
