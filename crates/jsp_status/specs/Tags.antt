-- What a browser may read as markup.
use Rattle.std.specs.Prelude.{ℕ, ◌+◌, ◌*◌, List, length, count_by, ◌==◌}
use Rattle.jsp_status.specs.declared.chart.TheConstants.{CAPTION, GREATEST, DRAWING, AXIS}
use Rattle.jsp_status.specs.declared.page.TheConstants.{HEAD, REFUSALS, SPACES, CONNECTIONS, CHARTS, FOOT}
use Rattle.jsp_status.specs.declared.status.Status.{Status}

-- each tag begins with `<`
unfoldable pub tags_in : List ℕ → ℕ
tags_in bytes = count_by (λ b. b == 60) bytes

-- a row has two, and so has each of its cells
abbrev pub row_tags : ℕ → ℕ
row_tags cells = 2 + 2 * cells

abbrev pub chart_tags : ℕ
chart_tags = tags_in CAPTION.now + tags_in GREATEST.now + tags_in DRAWING.now + tags_in AXIS.now

-- Those of a page with so many refusals, spaces, connections and charts, whatever is in the cells and in the names of the charts: the
-- server's own numbers have 17 rows.
abbrev pub tags_of : Status → ℕ
tags_of s =
    tags_in HEAD.now + tags_in REFUSALS.now + tags_in SPACES.now + tags_in CONNECTIONS.now + tags_in CHARTS.now
    + tags_in FOOT.now + row_tags 2 * 17 + row_tags 3 * length s.refusals.items + row_tags 5 * length s.spaces.items
    + row_tags 5 * length s.connection_list.items
    + chart_tags * length s.charts.items
