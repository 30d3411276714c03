-- Things that are named under each of their keys, and have their ends.
use Rattle.std.specs.Prelude.{◌≡◌, ◌≢◌, ℕ, ◌<◌, true, List, map}
use Rattle.std.specs.List.{AllByRecursion}
use Rattle.jsp_lease.specs.declared.item.Item.{Item}
use Rattle.jsp_lease.specs.declared.item.Rank.{Rank}
use Rattle.jsp_lease.specs.Leases.{Leased}
use Rattle.jsp_table.specs.Hints.{names}
use Rattle.jsp_table.specs.declared.hints.Hints.{Hints}

-- what the one names, the other names
abbrev pub Keeps : Hints → Hints → Type 0
Keeps old new = (k n : ℕ) → names old k n ≡ true → names new k n ≡ true

-- the number is named under each key
abbrev pub IsNamed : Hints → ℕ → List ℕ → Type 0
IsNamed hints n keys = AllByRecursion (λ k. names hints k n ≡ true) keys

-- other numbers than this one stay named
abbrev pub KeepsOthers : ℕ → Hints → Hints → Type 0
KeepsOthers number old new = (k n : ℕ) → n ≢ number → names old k n ≡ true → names new k n ≡ true

module _ {T : Type 0} (num : T → ℕ) (end_of : T → ℕ) (rank_of : Rank) where
  abbrev pub item_of : T → Item
  item_of x = record { end = end_of x; rank = rank_of; number = num x }

module _ {T : Type 0} (num : T → ℕ) (keys_of : ℕ → T → List ℕ) where
  -- each thing is named under its keys
  abbrev pub AreNamed : ℕ → Hints → List T → Type 0
  AreNamed seed hints xs = AllByRecursion (λ x. IsNamed hints (num x) (keys_of seed x)) xs

module _ {T : Type 0} (num : T → ℕ) (keys_of : ℕ → T → List ℕ) (end_of : T → ℕ) (rank_of : Rank) where
  -- each is named under its keys, and has its end and a number above 0
  pub record AreKeyed (seed : ℕ) (hints : Hints) (leased : Leased) (xs : List T) : Type 0 where
    pub named : AllByRecursion (λ x. IsNamed hints (num x) (keys_of seed x)) xs
    pub ended : leased.items ≡ map (item_of num end_of rank_of) xs
    pub positive : AllByRecursion (λ x. 0 < num x) xs
