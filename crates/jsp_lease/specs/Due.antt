-- What has an end, and which comes first.
use Rattle.std.specs.Prelude.{ℕ, Bool, if◌then◌else◌, ◌&&◌, ◌||◌, ◌==◌, nat_lt, nat_le, List, [], ◌∷◌, filter, Option, Some, None}
use Rattle.std.specs.Option.{option_map_or}
use Rattle.jsp_lease.specs.declared.item.Item.{Item}
use Rattle.jsp_lease.specs.declared.item.Rank.{Rank}
use Rattle.jsp_lease.specs.declared.item.Rank.TheVariants as rank

abbrev pub rank_number : Rank → ℕ
rank_number rank.Entry = 0
rank_number rank.Registration = 1
rank_number rank.Transaction = 2
rank_number rank.Blocked = 3
rank_number rank.MatchSet = 4

-- by end, then rank, then number
abbrev pub is_before : Item → Item → Bool
is_before a b =
    nat_lt a.end b.end
    || (a.end == b.end && (nat_lt (rank_number a.rank) (rank_number b.rank)
    || (rank_number a.rank == rank_number b.rank && nat_lt a.number b.number)))

abbrev pub first_item : List Item → Option Item
first_item [] = None
first_item (a ∷ items) = Some (option_map_or (λ b. if is_before b a then b else a) (first_item items) a)

abbrev pub is_item : Item → Item → Bool
is_item a b = a.end == b.end && rank_number a.rank == rank_number b.rank && a.number == b.number

-- those whose end has come
abbrev pub over_by : ℕ → List Item → List Item
over_by time items = filter (λ i. nat_le i.end time) items
