-- The status as metrics.
use Rattle.std.specs.Prelude.{ℕ, List, ◌++◌, ◌/◌, codes, string_bytes}
use Rattle.std.specs.List.{flat_map}
use Rattle.jsp_status.specs.declared.metric.Metric.{Metric}
use Rattle.jsp_status.specs.declared.metric.Metric.TheVariants.{Info, Uptime, Memory, Era, ErasEnded, Connections, ConnectionsOpened, ConnectionsPeak, ConnectionsLimit, Requests, Answers, Refusals, Transactions, TransactionsVoting, SpaceEntriesLimit, SpaceEntries, SpaceWaiting, SpaceRegistrations, SpaceMatchSets}
use Rattle.jsp_status.specs.declared.metrics.SpaceCount.{SpaceCount}
use Rattle.jsp_status.specs.declared.metrics.SpaceCount.TheVariants.{Rows, Waiting, Registrations, MatchSets}
use Rattle.jsp_status.specs.declared.status.RefusalCount.{RefusalCount}
use Rattle.jsp_status.specs.declared.status.SpaceStatus.{SpaceStatus}
use Rattle.jsp_status.specs.declared.status.Status.{Status}
use Rattle.jsp_status.specs.Sample.{head_of, metric_text, known_metric, labelled, numbered}

abbrev pub process_metrics : Status → List ℕ
process_metrics s =
    head_of Info ++ labelled Info (codes "version") (string_bytes s.version) 1
    ++ metric_text Uptime (s.uptime_ms / 1000)
    ++ known_metric Memory s.memory
    ++ metric_text Era s.era
    ++ metric_text ErasEnded s.seals

abbrev pub connection_metrics : Status → List ℕ
connection_metrics s =
    metric_text Connections s.connections.open
    ++ metric_text ConnectionsOpened s.connections.total
    ++ metric_text ConnectionsPeak s.connections.peak
    ++ metric_text ConnectionsLimit s.connections.limit

abbrev pub house_metrics : Status → List ℕ
house_metrics s =
    metric_text Requests s.requests
    ++ metric_text Answers s.answers
    ++ metric_text Transactions s.living
    ++ metric_text TransactionsVoting s.voting
    ++ metric_text SpaceEntriesLimit s.rows_limit

abbrev pub refusal_sample : RefusalCount → List ℕ
refusal_sample r = numbered Refusals r.number (string_bytes r.name) r.count

abbrev pub count_in : SpaceCount → SpaceStatus → ℕ
count_in Rows s = s.rows
count_in Waiting s = s.waiting
count_in Registrations s = s.registrations
count_in MatchSets s = s.match_sets

abbrev pub space_sample : Metric → SpaceCount → SpaceStatus → List ℕ
space_sample m count s = labelled m (codes "space") (string_bytes s.name) (count_in count s)

abbrev pub space_metrics : List SpaceStatus → List ℕ
space_metrics ss =
    head_of SpaceEntries ++ flat_map (space_sample SpaceEntries Rows) ss
    ++ head_of SpaceWaiting ++ flat_map (space_sample SpaceWaiting Waiting) ss
    ++ head_of SpaceRegistrations ++ flat_map (space_sample SpaceRegistrations Registrations) ss
    ++ head_of SpaceMatchSets ++ flat_map (space_sample SpaceMatchSets MatchSets) ss

-- each metric of the server, and those of refusals and of spaces with a sample for each
abbrev pub metrics_of : Status → List ℕ
metrics_of s =
    process_metrics s ++ connection_metrics s ++ house_metrics s
    ++ head_of Refusals ++ flat_map refusal_sample s.refusals.items
    ++ space_metrics s.spaces.items
