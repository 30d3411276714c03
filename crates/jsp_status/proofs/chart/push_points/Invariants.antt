use Rattle.std.proofs.Common.{◌≡◌, ◌++◌, take}
use Rattle.std.specs.List.{flat_map}
use Rattle.jsp_status.specs.Chart.{point_text}
use Rattle.jsp_status.proofs.chart.push_points.Given as goal

abbrev pub invariant-points : goal.invariant-points
invariant-points l =
    l.page.items ≡ l.initial.page.items ++ flat_map (point_text l.top) (take l.point-index l.points)
