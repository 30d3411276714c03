-- What becomes of a registration, and its end.
use Rattle.std.specs.Prelude.{ℕ, ◌+◌, ◌-◌, ◌^◌, ◌==◌, if◌then◌else◌, min, drop}
use Rattle.jsp_lease.specs.declared.item.Item.{Item}
use Rattle.jsp_lease.specs.declared.item.Rank.TheVariants as rank
use Rattle.jsp_model.specs.declared.state.Registration.{Registration}

abbrev pub registration_end : Registration → Item
registration_end r = record { end = r.end; rank = rank.Registration; number = r.number }

-- the one of this number has this end
abbrev pub registration_ending : ℕ → ℕ → Registration → Registration
registration_ending n end r = if r.number == n then record r { end = end } else r

-- its next event is told
abbrev pub told_once : Registration → Registration
told_once r = record r { owed = drop 1 r.owed; sequence = r.sequence + 1 }

-- the same; the sequence number stands at the greatest there is, if it ever comes to that
abbrev pub told_at_most : Registration → Registration
told_at_most r = record r { owed = drop 1 r.owed; sequence = min (r.sequence + 1) (2 ^ 64 - 1) }

abbrev pub telling : ℕ → Registration → Registration
telling n r = if r.number == n then told_at_most r else r
