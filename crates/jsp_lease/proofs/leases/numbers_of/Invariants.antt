use Rattle.std.proofs.Common.{◌≡◌, ◌≤◌, take, vec_capacity}
use Rattle.std.specs.Prelude.{map}
use Rattle.jsp_lease.specs.declared.item.Item.{Item}
use Rattle.jsp_lease.proofs.leases.numbers_of.Given as goal

abbrev pub invariant-loop-item : goal.invariant-loop-item
invariant-loop-item l = record {
  numbers : l.numbers.items ≡ map (λ (i : Item). i.number) (take l.item-index l.items);
  room : l.fn.places ≤ vec_capacity l.numbers;
}
