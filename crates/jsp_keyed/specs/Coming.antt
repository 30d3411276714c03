-- Items that come one after the other.
use Rattle.std.specs.Prelude.{ℕ, ◌<◌, List, [], ◌∷◌}
use Rattle.jsp_lease.specs.declared.item.Item.{Item}

-- the items' numbers rise above this one
abbrev pub AreAbove : ℕ → List Item → Type 0
AreAbove low [] = Unit {0}
AreAbove low (i ∷ items) = (low < i.number) × AreAbove i.number items

-- the number of the last item, or this one where there is none
abbrev pub last_number : ℕ → List Item → ℕ
last_number low [] = low
last_number low (i ∷ items) = last_number i.number items
