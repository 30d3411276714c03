use Rattle.std.proofs.Common.{◌≡◌, length, vec_capacity}
use Rattle.jsp_table.specs.Places.{HaveNumbers}
use Rattle.jsp_table.proofs.table.compact.Given as goal

abbrev pub invariant-slots : goal.invariant-slots
invariant-slots g l = record {
  size : length l.numbers.items ≡ length l.initial.numbers.items;
  room : vec_capacity l.numbers ≡ vec_capacity l.initial.numbers;
  numbered : HaveNumbers g.N.Numbering.number_of l.numbers.items l.slot-items l.place;
}
