-- The metrics that there are.
use Rattle.std.specs.Prelude.{ℕ, List, codes}
use Rattle.jsp_status.specs.declared.metric.Metric.{Metric}
use Rattle.jsp_status.specs.declared.metric.Metric.TheVariants.{Info, Uptime, Memory, Era, ErasEnded, Connections, ConnectionsOpened, ConnectionsPeak, ConnectionsLimit, Requests, Answers, Refusals, Transactions, TransactionsVoting, SpaceEntriesLimit, SpaceEntries, SpaceWaiting, SpaceRegistrations, SpaceMatchSets}
use Rattle.jsp_status.specs.declared.metric.Kind.{Kind}
use Rattle.jsp_status.specs.declared.metric.Kind.TheVariants.{Counter, Gauge}

unfoldable pub name_of : Metric → List ℕ
name_of Info = codes "jsp_info"
name_of Uptime = codes "jsp_uptime_seconds"
name_of Memory = codes "jsp_resident_memory_bytes"
name_of Era = codes "jsp_era"
name_of ErasEnded = codes "jsp_eras_ended_total"
name_of Connections = codes "jsp_connections"
name_of ConnectionsOpened = codes "jsp_connections_opened_total"
name_of ConnectionsPeak = codes "jsp_connections_peak"
name_of ConnectionsLimit = codes "jsp_connections_limit"
name_of Requests = codes "jsp_requests_total"
name_of Answers = codes "jsp_answers_total"
name_of Refusals = codes "jsp_refusals_total"
name_of Transactions = codes "jsp_transactions"
name_of TransactionsVoting = codes "jsp_transactions_voting"
name_of SpaceEntriesLimit = codes "jsp_space_entries_limit"
name_of SpaceEntries = codes "jsp_space_entries"
name_of SpaceWaiting = codes "jsp_space_waiting_requests"
name_of SpaceRegistrations = codes "jsp_space_registrations"
name_of SpaceMatchSets = codes "jsp_space_match_sets"

unfoldable pub help_of : Metric → List ℕ
help_of Info = codes "Always 1, with the version of the server."
help_of Uptime = codes "Whole seconds since the server began."
help_of Memory = codes "Bytes of the process that are in memory."
help_of Era = codes "The era that the history is in."
help_of ErasEnded = codes "Eras of the history that have ended."
help_of Connections = codes "Connections that are open."
help_of ConnectionsOpened = codes "Connections that were opened so far."
help_of ConnectionsPeak = codes "The most connections that were open at once."
help_of ConnectionsLimit = codes "How many connections may be open at once."
help_of Requests = codes "Requests that came, those that were refused and what was no request too."
help_of Answers = codes "Answers and events that were handed out."
help_of Refusals = codes "Answers that refused a request, by its number and name."
help_of Transactions = codes "Transactions that haven't ended."
help_of TransactionsVoting = codes "Transactions whose commit was asked and isn't decided."
help_of SpaceEntriesLimit = codes "How many entries a space may have."
help_of SpaceEntries = codes "Entries of a space, those of open transactions too."
help_of SpaceWaiting = codes "Requests that wait for an entry of a space."
help_of SpaceRegistrations = codes "Registrations of a space."
help_of SpaceMatchSets = codes "Match sets of a space."

-- the names of counters end in `_total`
abbrev pub kind_of : Metric → Kind
kind_of Info = Gauge
kind_of Uptime = Gauge
kind_of Memory = Gauge
kind_of Era = Gauge
kind_of ErasEnded = Counter
kind_of Connections = Gauge
kind_of ConnectionsOpened = Counter
kind_of ConnectionsPeak = Gauge
kind_of ConnectionsLimit = Gauge
kind_of Requests = Counter
kind_of Answers = Counter
kind_of Refusals = Counter
kind_of Transactions = Gauge
kind_of TransactionsVoting = Gauge
kind_of SpaceEntriesLimit = Gauge
kind_of SpaceEntries = Gauge
kind_of SpaceWaiting = Gauge
kind_of SpaceRegistrations = Gauge
kind_of SpaceMatchSets = Gauge
