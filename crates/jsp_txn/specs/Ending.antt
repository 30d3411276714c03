-- The end of a transaction, as an item, and a transaction whose lease was renewed.
use Rattle.std.specs.Prelude.{ℕ, ◌==◌, if◌then◌else◌}
use Rattle.jsp_lease.specs.declared.item.Item.{Item}
use Rattle.jsp_lease.specs.declared.item.Rank.TheVariants as rank
use Rattle.jsp_model.specs.declared.state.Transaction.{Transaction}

abbrev pub transaction_end : Transaction → Item
transaction_end x = record { end = x.end; rank = rank.Transaction; number = x.number }

-- the one of this number has this end
abbrev pub transaction_ending : ℕ → ℕ → Transaction → Transaction
transaction_ending n end t = if t.number == n then record t { end = end } else t
