-- The leases as a reader draws them, and what becomes of them.
use Rattle.std.specs.Prelude.{◌≡◌, ℕ, ◌+◌, ◌≤◌, Bool, not, if◌then◌else◌, ◌==◌, List, [], ◌∷◌, ◌++◌, map, filter, find, Option}
use Rattle.std.specs.List.{All}
use Rattle.std.specs.List.Sorted.{IsStrictlyIncreasing}
use Rattle.jsp_lease.specs.declared.item.Item.{Item}

-- the items in rising order of their numbers, the last number that was given, and how many items
-- can be added before memory is asked for
pub record Leased : Type 0 where
  pub items : List Item
  pub last : ℕ
  pub room : ℕ

abbrev pub with_items : Leased → List Item → Leased
with_items leases items = record leases { items = items }

abbrev pub is_numbered : ℕ → Item → Bool
is_numbered number item = item.number == number

abbrev pub item_numbered : ℕ → List Item → Option Item
item_numbered number items = find (is_numbered number) items

-- the item of that number ends then
abbrev pub ending_at : ℕ → ℕ → List Item → List Item
ending_at number end items = map (λ i. if is_numbered number i then record i { end = end } else i) items

abbrev pub without : ℕ → List Item → List Item
without number items = filter (λ i. not (is_numbered number i)) items

-- the numbers rise, up to the last one
pub record AreNumbered (leases : Leased) : Type 0 where
  pub rising : IsStrictlyIncreasing (map (λ (i : Item). i.number) leases.items)
  pub within : All (λ (i : Item). i.number ≤ leases.last) leases.items

-- the item stands after all others, and takes one place at most
pub record Adds (old : Leased) (item : Item) (new : Leased) : Type 0 where
  pub items : new.items ≡ old.items ++ item ∷ []
  pub last : new.last ≡ item.number
  pub room : old.room ≤ new.room + 1

-- there is as much room as before, and room for so many
pub record HasRoomFor (old : Leased) (count : ℕ) (new : Leased) : Type 0 where
  pub items : new.items ≡ old.items
  pub last : new.last ≡ old.last
  pub room : old.room ≤ new.room
  pub asked : count ≤ new.room
