use Rattle.std.proofs.Common.{◌≡◌, List, ◌++◌, OnOk, rules, subst}
use Rattle.std.specs.List.{flat_map}
use Rattle.jsp_status.specs.declared.chart.Point.{Point}
use Rattle.jsp_status.specs.declared.chart.TheConstants.{DRAWING, AXIS}
use Rattle.jsp_status.specs.Chart.{drawing_text, point_text}
use Rattle.jsp_status.proofs.Appended.{appended, appended-OnOk}
use Rattle.jsp_status.proofs.chart.push_drawing.Goals as goal

pub returns : goal.returns
unfolding drawing_text
returns c =
    let P : List Point → Type 0 =
    λ ps. c.push_points.new.page.items ≡ c.extend_from_slice.new.self.items ++ flat_map (point_text c.args.chart.now.top) ps in
    let first : c.extend_from_slice.new.self.items ≡ c.args.page.now.items ++ DRAWING.now = search rules in
    let line : P c.args.chart.now.points.items = subst P c.deref.ensures.value c.in_ok-push_points.ensures in
    let last : OnOk c.extend_from_slice-2.result (c.extend_from_slice-2.new.self.items ≡ c.push_points.new.page.items ++ AXIS.now) = search rules in
    appended-OnOk c.extend_from_slice-2.result c.args.page.now.items c.push_points.new.page.items
    c.extend_from_slice-2.new.self.items (DRAWING.now ++ flat_map (point_text c.args.chart.now.top) c.args.chart.now.points.items) AXIS.now
    (appended c.args.page.now.items c.extend_from_slice.new.self.items c.push_points.new.page.items DRAWING.now _ first line)
    last
