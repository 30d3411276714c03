use Rattle.std.proofs.Common.{◌≡◌, ◌≤◌, ◌+◌, ◌++◌, length, map, take, vec_len, vec_capacity}
use Rattle.jsp_table.proofs.table.append_numbers.Given as goal

abbrev pub invariant-things : goal.invariant-things
invariant-things g l = record {
  numbers : l.numbers.items ≡ l.initial.numbers.items ++ map g.N.Numbering.number_of (take l.thing-index l.things);
  room : vec_len l.numbers + length l.things ≤ vec_capacity l.numbers + l.thing-index;
}
