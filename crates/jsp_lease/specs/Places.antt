-- The numbers that places have.
use Rattle.std.specs.Prelude.{◌≡◌, ℕ, ◌<◌, ◌≤◌, ◌==◌, List, length, slice_index, Option, Some}
use Rattle.std.specs.List.{All}
use Rattle.jsp_lease.specs.declared.item.Item.{Item}
use Rattle.jsp_lease.specs.Leases.{is_numbered}
use Rattle.jsp_lease.specs.Tournament.{node_at}

-- Each place that is in use has a number, in rising order, and an item stands at the place of its number. A
-- place keeps its number where its item has gone.
pub record AreKept (numbers : List ℕ) (places : List (Option Item)) : Type 0 where
  pub fits : length numbers ≤ length places
  pub rising : (i j : ℕ) → i < j → j < length numbers → slice_index numbers i < slice_index numbers j
  pub at_its_number : (k : ℕ) (item : Item) → node_at places k ≡ Some item → (k < length numbers) × (slice_index numbers k ≡ item.number)

-- the numbers go up to the last one, and memory for a number of each place is there
pub record AreRoomy (numbers : List ℕ) (places : List (Option Item)) (last capacity : ℕ) : Type 0 where
  pub kept : AreKept numbers places
  pub within : All (λ n. n ≤ last) numbers
  pub room : length places ≤ capacity

-- an item has that number if it stands at that place
abbrev pub IsPlaceOf : ℕ → List (Option Item) → ℕ → Type 0
IsPlaceOf number places place = (k : ℕ) (item : Item) → node_at places k ≡ Some item → is_numbered number item ≡ (k == place)

-- the place of the number has this item
pub record StandsAt (number : ℕ) (places : List (Option Item)) (place : ℕ) (item : Item) : Type 0 where
  pub in_range : place < length places
  pub there : node_at places place ≡ Some item
  pub only : IsPlaceOf number places place
