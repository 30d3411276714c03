-- A tournament of places, some of which are empty.
use Rattle.std.specs.Prelude.{◌≡◌, ℕ, ◌+◌, ◌<◌, if◌then◌else◌, List, length, slice_index_or, Option, Some, None}
use Rattle.std.specs.List.{filter_map}
use Rattle.jsp_lease.specs.declared.item.Item.{Item}
use Rattle.jsp_lease.specs.Due.{is_before}

-- the items of the places that aren't empty
abbrev pub living : List (Option Item) → List Item
living places = filter_map (λ place. place) places

-- who wins of two places
abbrev pub earlier : Option Item → Option Item → Option Item
earlier None b = b
earlier (Some a) None = Some a
earlier (Some a) (Some b) = Some (if is_before b a then b else a)

abbrev pub node_at : List (Option Item) → ℕ → Option Item
node_at nodes n = slice_index_or nodes n None

-- the node has the winner of the two nodes below it
abbrev pub IsWon : List (Option Item) → ℕ → Type 0
IsWon nodes n = node_at nodes n ≡ earlier (node_at nodes (n + n)) (node_at nodes (n + n + 1))

-- the places stand in the second half, and each node before them, but for the unused one at 0, is won
pub record IsTournament (places : ℕ) (nodes : List (Option Item)) : Type 0 where
  pub size : length nodes ≡ places + places
  pub won : (n : ℕ) → 0 < n → n < places → IsWon nodes n
