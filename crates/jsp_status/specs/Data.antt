-- The status as JSON.
use Rattle.std.specs.Prelude.{ℕ, Option, Some, None, map, codes, string_bytes}
use Rattle.serde_json.specs.Data.{Data, null, number, unsigned, string, array, object, no_members, member}
use Rattle.serde_json.specs.View.{items_of}
use Rattle.jsp_status.specs.declared.status.ConnectionStatus.{ConnectionStatus}
use Rattle.jsp_status.specs.declared.status.Rates.{Rates}
use Rattle.jsp_status.specs.declared.status.RefusalCount.{RefusalCount}
use Rattle.jsp_status.specs.declared.status.SpaceStatus.{SpaceStatus}
use Rattle.jsp_status.specs.declared.status.Status.{Status}

abbrev pub count_data : ℕ → Data
count_data n = number (unsigned n)

abbrev pub refusal_data : RefusalCount → Data
refusal_data r =
    object (member (codes "count") (count_data r.count)
    (member (codes "name") (string (string_bytes r.name))
    (member (codes "number") (count_data r.number) no_members)))

abbrev pub connection_data : ConnectionStatus → Data
connection_data c =
    object (member (codes "address") (string (string_bytes c.address))
    (member (codes "number") (count_data c.number)
    (member (codes "open_ms") (count_data c.open_ms)
    (member (codes "requests") (count_data c.requests)
    (member (codes "waiting") (count_data c.waiting) no_members)))))

abbrev pub space_data : SpaceStatus → Data
space_data s =
    object (member (codes "match_sets") (count_data s.match_sets)
    (member (codes "name") (string (string_bytes s.name))
    (member (codes "registrations") (count_data s.registrations)
    (member (codes "rows") (count_data s.rows)
    (member (codes "waiting") (count_data s.waiting) no_members)))))

abbrev pub transactions_data : Status → Data
transactions_data s =
    object (member (codes "living") (count_data s.living)
    (member (codes "voting") (count_data s.voting) no_members))

-- a number, where it is known
abbrev pub known_data : Option ℕ → Data
known_data (Some n) = count_data n
known_data None = null

abbrev pub rates_data : Rates → Data
rates_data r =
    object (member (codes "answers") (count_data r.answers)
    (member (codes "refusals") (count_data r.refusals)
    (member (codes "requests") (count_data r.requests) no_members)))

-- how much is used, and how much may be
abbrev pub usage_data : Status → Data
usage_data s =
    object (member (codes "connections_limit") (count_data s.connections.limit)
    (member (codes "connections_peak") (count_data s.connections.peak)
    (member (codes "connections_total") (count_data s.connections.total)
    (member (codes "memory_bytes") (known_data s.memory)
    (member (codes "per_10_seconds") (rates_data s.rates)
    (member (codes "rows_limit") (count_data s.rows_limit) no_members))))))

-- the members are in the order of their names
abbrev pub status_data : Status → Data
status_data s =
    object (member (codes "answers") (count_data s.answers)
    (member (codes "connection_list") (array (items_of (map connection_data s.connection_list.items)))
    (member (codes "connections") (count_data s.connections.open)
    (member (codes "era") (count_data s.era)
    (member (codes "refusals") (array (items_of (map refusal_data s.refusals.items)))
    (member (codes "requests") (count_data s.requests)
    (member (codes "seals") (count_data s.seals)
    (member (codes "spaces") (array (items_of (map space_data s.spaces.items)))
    (member (codes "transactions") (transactions_data s)
    (member (codes "uptime_ms") (count_data s.uptime_ms)
    (member (codes "usage") (usage_data s)
    (member (codes "version") (string (string_bytes s.version)) no_members))))))))))))
