-- What is asked of requests that wait.
use Rattle.std.specs.Prelude.{ℕ, ◌&&◌, ◌==◌, List, map, filter, is_some}
use Rattle.std.specs.List.{list_any}
use Rattle.jsp_lease.specs.declared.item.Item.{Item}
use Rattle.jsp_lease.specs.declared.item.Rank.TheVariants as rank
use Rattle.jsp_model.specs.declared.state.Blocked.{Blocked}
use Rattle.jsp_model.specs.Lookup.{is_caller}
use Rattle.jsp_wait.specs.declared.waiters.Asker.{Asker}

abbrev pub blocked_end : Blocked → Item
blocked_end b = record { end = b.end; rank = rank.Blocked; number = b.number }

-- who asked
abbrev pub asker : Blocked → Asker
asker b = record { session = b.session; id = b.id }

-- who asked those of these that are under one of the transactions
abbrev pub askers_under : List ℕ → List Blocked → List Asker
askers_under xs requests = map asker (filter (λ b. list_any (is_caller b.transaction) xs) requests)

-- who asked those of these that are under a transaction at the space
abbrev pub askers_at : ℕ → List Blocked → List Asker
askers_at space requests = map asker (filter (λ b. b.space == space && is_some b.transaction) requests)
