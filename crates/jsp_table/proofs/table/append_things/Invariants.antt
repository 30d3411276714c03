use Rattle.std.proofs.Common.{◌≡◌, ◌≤◌, ◌+◌, ◌++◌, Some, map, vec_len, vec_capacity}
use Rattle.std.specs.Prelude.{reverse}
use Rattle.jsp_table.proofs.table.append_things.Given as goal

abbrev pub invariant-things : goal.invariant-things
invariant-things g l = record {
  slots : l.slots.items ++ map Some (reverse l.things.items) ≡ l.fn.slots.items ++ map Some l.fn.things.items;
  room : vec_len l.slots + vec_len l.things ≤ vec_capacity l.slots;
}

abbrev pub decreases-things : goal.decreases-things
decreases-things g l = vec_len l.things
