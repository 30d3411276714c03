-- A transaction that a space joins, and a join that is taken back.
use Rattle.std.specs.Prelude.{◌-◌, [], ◌∷◌, ◌++◌, length, take}
use Rattle.jsp_model.specs.declared.state.Transaction.{Transaction}
use Rattle.jsp_model.specs.declared.state.Joined.{Joined}

abbrev pub with_joined : Joined → Transaction → Transaction
with_joined j t = record t { joined = t.joined ++ j ∷ [] }

-- the transaction without the space that joined last
abbrev pub without_last : Transaction → Transaction
without_last t = record t { joined = take (length t.joined - 1) t.joined }
