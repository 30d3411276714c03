-- A text adds no tag to a page.
use Rattle.std.proofs.Common.{◌≡◌, ℕ, ◌+◌, ◌*◌, ◌/◌, ◌%◌, ◌<◌, false, zero, suc, List, [], ◌∷◌, ◌++◌, ◌-◌, Option, Some, None, max, length, codes, decimal, refl, lit<, mod-lt, arith, ◌==◌, if◌then◌else◌, string_bytes}
use Rattle.std.specs.List.{flat_map}
use Rattle.std.specs.Fmt.{digits, digits_onto, digit_glyph}
use Rattle.std.proofs.lemmas.List.Sums.{sum_by-append, sum_by-cons}
use Rattle.jsp_status.specs.declared.chart.Chart.{Chart}
use Rattle.jsp_status.specs.declared.chart.Point.{Point}
use Rattle.jsp_status.specs.declared.chart.Scale.{Scale}
use Rattle.jsp_status.specs.declared.chart.Scale.TheVariants.{Ones, Tenths}
use Rattle.jsp_status.specs.declared.chart.TheConstants.{CAPTION, GREATEST, DRAWING, AXIS}
use Rattle.jsp_status.specs.declared.page.TheConstants.{HEAD, REFUSALS, SPACES, CONNECTIONS, CHARTS, FOOT}
use Rattle.jsp_status.specs.declared.status.ConnectionCounts.{ConnectionCounts}
use Rattle.jsp_status.specs.declared.status.ConnectionStatus.{ConnectionStatus}
use Rattle.jsp_status.specs.declared.status.RefusalCount.{RefusalCount}
use Rattle.jsp_status.specs.declared.status.SpaceStatus.{SpaceStatus}
use Rattle.jsp_status.specs.declared.status.Status.{Status}
use Rattle.jsp_status.specs.Escape.{escape_of, escaped}
use Rattle.jsp_status.specs.Decimal.{tenths}
use Rattle.jsp_status.specs.Chart.{amount_of, point_text, caption_text, drawing_text, chart_text}
use Rattle.jsp_status.specs.Table.{cell_text, known_text, row}
use Rattle.jsp_status.specs.Page.{count_row, rate_row, process_text, opened_text, most_text, traffic_text, house_text, counts_text, refusal_row, space_row, connection_row, page_of}
use Rattle.jsp_status.specs.Tags.{tags_in, row_tags, chart_tags, tags_of}

pub tags-append : (xs ys : List ℕ) → tags_in (xs ++ ys) ≡ tags_in xs + tags_in ys
unfolding tags_in
tags-append xs ys = sum_by-append _ xs ys

tags-escape_of : (b : ℕ) → tags_in (escape_of b) ≡ 0
unfolding tags_in
tags-escape_of b = grind arith

tags-flat : (bs : List ℕ) → tags_in (flat_map escape_of bs) ≡ 0
unfolding tags_in
tags-flat [] = refl
tags-flat (b ∷ bs) = rw (tags-append (escape_of b) (flat_map escape_of bs), tags-escape_of b, tags-flat bs) refl

tags-escaped : (bs : List ℕ) → tags_in (escaped bs) ≡ 0
unfolding escaped
tags-escaped bs = tags-flat bs

tags-digit : (d : ℕ) (acc : List ℕ) → d < 10 → tags_in (digit_glyph false d ∷ acc) ≡ tags_in acc
unfolding tags_in
tags-digit d acc h = grind (arith, sum_by-cons (λ b. if b == 60 then 1 else 0) (digit_glyph false d) acc)

tags-digits_onto : (k n : ℕ) (acc : List ℕ) → tags_in (digits_onto k 10 false n acc) ≡ tags_in acc
tags-digits_onto zero n acc = refl
tags-digits_onto (suc k) n acc =
    let first : tags_in (digit_glyph false (n % 10) ∷ acc) ≡ tags_in acc = tags-digit (n % 10) acc (mod-lt n (lit< tt)) in
    grind (arith, first, tags-digits_onto k (n / 10) (digit_glyph false (n % 10) ∷ acc))

tags-decimal : (n : ℕ) → tags_in (decimal n) ≡ 0
unfolding digits tags_in
tags-decimal n = tags-digits_onto 64 n []

tags-nil : tags_in [] ≡ 0
unfolding tags_in
tags-nil = refl

tags-dot : tags_in (codes ".") ≡ 0
unfolding tags_in
tags-dot = refl

tags-comma : tags_in (codes ",") ≡ 0
unfolding tags_in
tags-comma = refl

tags-blank : tags_in (codes " ") ≡ 0
unfolding tags_in
tags-blank = refl

-- what follows one another
tags-two : (a b : List ℕ) (n m : ℕ) → tags_in a ≡ n → tags_in b ≡ m → tags_in (a ++ b) ≡ n + m
tags-two a b n m p q = rw (tags-append a b, p, q) refl

tags-tenths : (n : ℕ) → tags_in (tenths n) ≡ 0
tags-tenths n =
    tags-two (decimal (n / 10) ++ codes ".") (decimal (n % 10)) 0 0
    (tags-two (decimal (n / 10)) (codes ".") 0 0 (tags-decimal _) tags-dot) (tags-decimal _)

tags-known : (n : Option ℕ) → tags_in (known_text n) ≡ 0
tags-known (Some n) = tags-decimal n
tags-known None = tags-nil

abbrev ArePlain : List (List ℕ) → Type 0
ArePlain [] = Unit {0}
ArePlain (c ∷ cs) = (tags_in c ≡ 0) × ArePlain cs

tags-cell : (c : List ℕ) → tags_in (cell_text c) ≡ 2 + tags_in c
unfolding tags_in
tags-cell c = rw (tags-append (codes "<td>" ++ c) (codes "</td>"), tags-append (codes "<td>") c) (omega arith)

tags-cells : (cs : List (List ℕ)) → ArePlain cs → tags_in (flat_map cell_text cs) ≡ 2 * length cs
tags-cells [] h = tags-nil
tags-cells (c ∷ cs) h = omega (arith, tags-append (cell_text c) (flat_map cell_text cs), tags-cell c, h.0, tags-cells cs h.1)

tags-row_begin : tags_in (codes "<tr>") ≡ 1
unfolding tags_in
tags-row_begin = refl

tags-row_end : tags_in (codes "</tr>\n") ≡ 1
unfolding tags_in
tags-row_end = refl

tags-row : (cs : List (List ℕ)) → ArePlain cs → tags_in (row cs) ≡ row_tags (length cs)
unfolding row
tags-row cs h =
    rw (tags-append (codes "<tr>" ++ flat_map cell_text cs) (codes "</tr>\n"), tags-append (codes "<tr>") (flat_map cell_text cs), tags-row_begin, tags-row_end, tags-cells cs h)
    (omega arith)

tags-pair : (name content : List ℕ) → tags_in content ≡ 0 → tags_in (row (escaped name ∷ content ∷ [])) ≡ 6
tags-pair name content h = tags-row _ (tags-escaped name, (h, tt))

tags-count_row : (name : List ℕ) (count : ℕ) → tags_in (count_row name count) ≡ 6
tags-count_row name count = tags-pair name _ (tags-decimal count)

tags-rate_row : (name : List ℕ) (rate : ℕ) → tags_in (rate_row name rate) ≡ 6
tags-rate_row name rate = tags-pair name _ (tags-tenths rate)

tags-three : (a b c : List ℕ) → tags_in a ≡ 6 → tags_in b ≡ 6 → tags_in c ≡ 6 → tags_in (a ++ b ++ c) ≡ 18
tags-three a b c pa pb pc = tags-two _ _ 12 6 (tags-two _ _ 6 6 pa pb) pc

tags-four : (a b c d : List ℕ) → tags_in a ≡ 6 → tags_in b ≡ 6 → tags_in c ≡ 6 → tags_in d ≡ 6
    → tags_in (a ++ b ++ c ++ d) ≡ 24
tags-four a b c d pa pb pc pd = tags-two _ _ 18 6 (tags-three _ _ _ pa pb pc) pd

tags-five : (a b c d e : List ℕ) → tags_in a ≡ 6 → tags_in b ≡ 6 → tags_in c ≡ 6 → tags_in d ≡ 6 → tags_in e ≡ 6
    → tags_in (a ++ b ++ c ++ d ++ e) ≡ 30
tags-five a b c d e pa pb pc pd pe = tags-two _ _ 24 6 (tags-four _ _ _ _ pa pb pc pd) pe

tags-process_text : (s : Status) → tags_in (process_text s) ≡ 30
tags-process_text s =
    tags-five _ _ _ _ _ (tags-pair _ _ (tags-escaped _)) (tags-count_row _ _) (tags-pair _ _ (tags-known s.memory))
    (tags-count_row _ _) (tags-count_row _ _)

tags-opened_text : (c : ConnectionCounts) → tags_in (opened_text c) ≡ 12
tags-opened_text c = tags-two _ _ 6 6 (tags-count_row _ _) (tags-count_row _ _)

tags-most_text : (c : ConnectionCounts) → tags_in (most_text c) ≡ 12
tags-most_text c = tags-two _ _ 6 6 (tags-count_row _ _) (tags-count_row _ _)

tags-traffic_text : (s : Status) → tags_in (traffic_text s) ≡ 30
tags-traffic_text s =
    tags-five _ _ _ _ _ (tags-count_row _ _) (tags-count_row _ _) (tags-rate_row _ _) (tags-rate_row _ _) (tags-rate_row _ _)

tags-house_text : (s : Status) → tags_in (house_text s) ≡ 18
tags-house_text s = tags-three _ _ _ (tags-count_row _ _) (tags-count_row _ _) (tags-count_row _ _)

tags-counts_text : (s : Status) → tags_in (counts_text s) ≡ 102
tags-counts_text s =
    tags-two (process_text s ++ opened_text s.connections ++ most_text s.connections ++ traffic_text s) (house_text s) 84 18
    (tags-two (process_text s ++ opened_text s.connections ++ most_text s.connections) (traffic_text s) 54 30
    (tags-two (process_text s ++ opened_text s.connections) (most_text s.connections) 42 12
    (tags-two (process_text s) (opened_text s.connections) 30 12 (tags-process_text s) (tags-opened_text s.connections))
    (tags-most_text s.connections))
    (tags-traffic_text s))
    (tags-house_text s)

tags-refusal_row : (r : RefusalCount) → tags_in (refusal_row r) ≡ row_tags 3
tags-refusal_row r = tags-row _ (tags-escaped _, (tags-decimal _, (tags-decimal _, tt)))

tags-space_row : (s : SpaceStatus) → tags_in (space_row s) ≡ row_tags 5
tags-space_row s =
    tags-row _ (tags-escaped _, (tags-decimal _, (tags-decimal _, (tags-decimal _, (tags-decimal _, tt)))))

tags-connection_row : (c : ConnectionStatus) → tags_in (connection_row c) ≡ row_tags 5
tags-connection_row c =
    tags-row _ (tags-escaped _, (tags-decimal _, (tags-decimal _, (tags-decimal _, (tags-decimal _, tt)))))

tags-amount_of : (scale : Scale) (n : ℕ) → tags_in (amount_of scale n) ≡ 0
tags-amount_of Ones n = tags-decimal n
tags-amount_of Tenths n = tags-tenths n

tags-point_text : (top : ℕ) (p : Point) → tags_in (point_text top p) ≡ 0
unfolding point_text
tags-point_text top p =
    tags-two _ _ 0 0 (tags-two _ _ 0 0 (tags-two _ _ 0 0 (tags-decimal _) tags-comma) (tags-decimal _)) tags-blank

tags-points : (top : ℕ) (ps : List Point) → tags_in (flat_map (point_text top) ps) ≡ 0
tags-points top [] = tags-nil
tags-points top (p ∷ ps) =
    omega (arith, tags-append (point_text top p) (flat_map (point_text top) ps), tags-point_text top p, tags-points top ps)

tags-between : (a b c : List ℕ) → tags_in b ≡ 0 → tags_in (a ++ b ++ c) ≡ tags_in a + tags_in c
tags-between a b c pb = simp (tags-append, pb) (omega arith)

tags-caption_text : (c : Chart) → tags_in (caption_text c) ≡ tags_in CAPTION.now + tags_in GREATEST.now
unfolding caption_text
tags-caption_text c = tags-between CAPTION.now (escaped (string_bytes c.name)) GREATEST.now (tags-escaped _)

tags-drawing_text : (c : Chart) → tags_in (drawing_text c) ≡ tags_in DRAWING.now + tags_in AXIS.now
unfolding drawing_text
tags-drawing_text c =
    tags-between DRAWING.now (flat_map (point_text c.top) c.points.items) AXIS.now (tags-points c.top c.points.items)

tags-chart_text : (c : Chart) → tags_in (chart_text c) ≡ chart_tags
tags-chart_text c =
    let all : tags_in (chart_text c) ≡ tags_in (caption_text c) + tags_in (drawing_text c) =
    tags-between (caption_text c) (amount_of c.scale c.top) (drawing_text c) (tags-amount_of c.scale c.top) in
    omega (arith, all, tags-caption_text c, tags-drawing_text c)

tags-refusals : (rs : List RefusalCount) → tags_in (flat_map refusal_row rs) ≡ row_tags 3 * length rs
tags-refusals [] = tags-nil
tags-refusals (r ∷ rs) =
    omega (arith, tags-append (refusal_row r) (flat_map refusal_row rs), tags-refusal_row r, tags-refusals rs)

tags-spaces : (ss : List SpaceStatus) → tags_in (flat_map space_row ss) ≡ row_tags 5 * length ss
tags-spaces [] = tags-nil
tags-spaces (s ∷ ss) =
    omega (arith, tags-append (space_row s) (flat_map space_row ss), tags-space_row s, tags-spaces ss)

tags-connections : (cs : List ConnectionStatus) → tags_in (flat_map connection_row cs) ≡ row_tags 5 * length cs
tags-connections [] = tags-nil
tags-connections (c ∷ cs) =
    omega (arith, tags-append (connection_row c) (flat_map connection_row cs), tags-connection_row c, tags-connections cs)

-- a text for each of a list has as often so many tags
more-tags : (n k rest : ℕ) → rest ≡ n * k → n + rest ≡ n * suc k
more-tags n k rest h = grind (arith, h)

tags-charts : (cs : List Chart) → tags_in (flat_map chart_text cs) ≡ chart_tags * length cs
unfolding tags_in
tags-charts [] = tags-nil
tags-charts (c ∷ cs) =
    rw (tags-append (chart_text c) (flat_map chart_text cs), tags-chart_text c)
    (more-tags chart_tags (length cs) _ (tags-charts cs))

tags-eleven : (a b c d e f g h i j k : List ℕ) (n m l o : ℕ) → tags_in b ≡ 102 → tags_in d ≡ n → tags_in f ≡ m → tags_in h ≡ l → tags_in j ≡ o
    → tags_in (a ++ b ++ c ++ d ++ e ++ f ++ g ++ h ++ i ++ j ++ k)
    ≡ tags_in a + tags_in c + tags_in e + tags_in g + tags_in i + tags_in k + 102 + n + m + l + o
tags-eleven a b c d e f g h i j k n m l o pb pd pf ph pj = simp (tags-append, pb, pd, pf, ph, pj) (omega arith)

pub tags_of_page : (s : Status) → tags_in (page_of s) ≡ tags_of s
unfolding page_of
tags_of_page s =
    tags-eleven HEAD.now (counts_text s) REFUSALS.now (flat_map refusal_row s.refusals.items) SPACES.now
    (flat_map space_row s.spaces.items) CONNECTIONS.now (flat_map connection_row s.connection_list.items) CHARTS.now
    (flat_map chart_text s.charts.items) FOOT.now _ _ _ _ (tags-counts_text s) (tags-refusals _) (tags-spaces _)
    (tags-connections _) (tags-charts _)
