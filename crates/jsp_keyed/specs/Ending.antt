-- The first item whose end has come, found from the last to the first.
use Rattle.std.specs.Prelude.{ℕ, nat_le, if◌then◌else◌, Option, Some}
use Rattle.std.specs.Option.{option_map_or}
use Rattle.jsp_lease.specs.declared.item.Item.{Item}
use Rattle.jsp_lease.specs.Due.{is_before}

-- the item, if its end has come, or what stands behind it, where that comes before it
abbrev pub first_with : ℕ → Item → Option Item → Option Item
first_with time a behind = if nat_le a.end time then Some (option_map_or (λ b. if is_before b a then b else a) behind a) else behind
