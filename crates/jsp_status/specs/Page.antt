-- What the page shows.
use Rattle.std.specs.Prelude.{ℕ, List, [], ◌∷◌, ◌++◌, ◌/◌, codes, decimal, string_bytes}
use Rattle.std.specs.List.{flat_map}
use Rattle.jsp_status.specs.declared.page.TheConstants.{HEAD, REFUSALS, SPACES, CONNECTIONS, CHARTS, FOOT}
use Rattle.jsp_status.specs.declared.status.ConnectionCounts.{ConnectionCounts}
use Rattle.jsp_status.specs.declared.status.ConnectionStatus.{ConnectionStatus}
use Rattle.jsp_status.specs.declared.status.RefusalCount.{RefusalCount}
use Rattle.jsp_status.specs.declared.status.SpaceStatus.{SpaceStatus}
use Rattle.jsp_status.specs.declared.status.Status.{Status}
use Rattle.jsp_status.specs.Chart.{chart_text}
use Rattle.jsp_status.specs.Decimal.{tenths}
use Rattle.jsp_status.specs.Escape.{escaped}
use Rattle.jsp_status.specs.Table.{known_text, row}

-- a name and a number
abbrev pub count_row : List ℕ → ℕ → List ℕ
count_row name count = row (escaped name ∷ decimal count ∷ [])

-- a name and a number of tenths
abbrev pub rate_row : List ℕ → ℕ → List ℕ
rate_row name rate = row (escaped name ∷ tenths rate ∷ [])

abbrev pub process_text : Status → List ℕ
process_text s =
    row (escaped (codes "version") ∷ escaped (string_bytes s.version) ∷ [])
    ++ count_row (codes "seconds up") (s.uptime_ms / 1000)
    ++ row (escaped (codes "bytes in memory") ∷ known_text s.memory ∷ [])
    ++ count_row (codes "era") s.era
    ++ count_row (codes "eras ended") s.seals

abbrev pub opened_text : ConnectionCounts → List ℕ
opened_text c = count_row (codes "connections") c.open ++ count_row (codes "connections so far") c.total

abbrev pub most_text : ConnectionCounts → List ℕ
most_text c = count_row (codes "most connections at once") c.peak ++ count_row (codes "connections, limit") c.limit

abbrev pub traffic_text : Status → List ℕ
traffic_text s =
    count_row (codes "requests") s.requests
    ++ count_row (codes "answers") s.answers
    ++ rate_row (codes "requests a second") s.rates.requests
    ++ rate_row (codes "answers a second") s.rates.answers
    ++ rate_row (codes "refusals a second") s.rates.refusals

abbrev pub house_text : Status → List ℕ
house_text s =
    count_row (codes "transactions") s.living
    ++ count_row (codes "transactions voting") s.voting
    ++ count_row (codes "entries in a space, limit") s.rows_limit

abbrev pub counts_text : Status → List ℕ
counts_text s =
    process_text s ++ opened_text s.connections ++ most_text s.connections ++ traffic_text s ++ house_text s

abbrev pub refusal_row : RefusalCount → List ℕ
refusal_row r = row (escaped (string_bytes r.name) ∷ decimal r.number ∷ decimal r.count ∷ [])

abbrev pub space_row : SpaceStatus → List ℕ
space_row s =
    row (escaped (string_bytes s.name) ∷ decimal s.rows ∷ decimal s.waiting ∷ decimal s.registrations
    ∷ decimal s.match_sets ∷ [])

abbrev pub connection_row : ConnectionStatus → List ℕ
connection_row c =
    row (escaped (string_bytes c.address) ∷ decimal c.number ∷ decimal (c.open_ms / 1000) ∷ decimal c.requests
    ∷ decimal c.waiting ∷ [])

-- a table of the server's numbers, one with a row for each refusal, one for each space, one for each connection that is
-- listed, and the charts
unfoldable pub page_of : Status → List ℕ
page_of s =
    HEAD.now ++ counts_text s ++ REFUSALS.now ++ flat_map refusal_row s.refusals.items ++ SPACES.now
    ++ flat_map space_row s.spaces.items ++ CONNECTIONS.now ++ flat_map connection_row s.connection_list.items
    ++ CHARTS.now ++ flat_map chart_text s.charts.items ++ FOOT.now
