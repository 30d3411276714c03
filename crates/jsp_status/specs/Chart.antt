-- What a chart draws.
use Rattle.std.specs.Prelude.{ℕ, List, ◌++◌, ◌-◌, ◌*◌, ◌/◌, max, codes, decimal, string_bytes}
use Rattle.std.specs.List.{flat_map}
use Rattle.jsp_status.specs.declared.chart.Chart.{Chart}
use Rattle.jsp_status.specs.declared.chart.Point.{Point}
use Rattle.jsp_status.specs.declared.chart.Scale.{Scale}
use Rattle.jsp_status.specs.declared.chart.Scale.TheVariants.{Ones, Tenths}
use Rattle.jsp_status.specs.declared.chart.TheConstants.{CAPTION, GREATEST, DRAWING, AXIS}
use Rattle.jsp_status.specs.Decimal.{tenths}
use Rattle.jsp_status.specs.Escape.{escaped}

abbrev pub amount_of : Scale → ℕ → List ℕ
amount_of Ones n = decimal n
amount_of Tenths n = tenths n

-- From the left edge, 300 seconds ago, and from the upper edge, 60 above the lower one. The upper edge is the top value's.
unfoldable pub point_text : ℕ → Point → List ℕ
point_text top p =
    decimal (300 - p.age) ++ codes "," ++ decimal (60 - p.value * 60 / max top 1) ++ codes " "

unfoldable pub caption_text : Chart → List ℕ
caption_text c = CAPTION.now ++ escaped (string_bytes c.name) ++ GREATEST.now

-- a line through the points
unfoldable pub drawing_text : Chart → List ℕ
drawing_text c = DRAWING.now ++ flat_map (point_text c.top) c.points.items ++ AXIS.now

-- the name, the value at the upper edge, and the line
abbrev pub chart_text : Chart → List ℕ
chart_text c = caption_text c ++ amount_of c.scale c.top ++ drawing_text c
