use Rattle.std.proofs.Common.{◌≡◌, ℕ, true, take}
use Rattle.std.specs.List.{AllByRecursion}
use Rattle.jsp_index.specs.Holding.{lists, Keeps}
use Rattle.jsp_model.specs.Lookup.{is_caller}
use Rattle.jsp_index.proofs.holding.hold.Given as goal

abbrev pub invariant-readers : goal.invariant-readers
invariant-readers l = record {
  keeps : Keeps l.fn.holders l.holders;
  by_writer : (x : ℕ) → is_caller l.fn.row.writer x ≡ true → lists l.holders x l.fn.row.space l.fn.row.number ≡ true;
  by_taker : (x : ℕ) → is_caller l.fn.row.taker x ≡ true → lists l.holders x l.fn.row.space l.fn.row.number ≡ true;
  by_reader : AllByRecursion (λ x. lists l.holders x l.fn.row.space l.fn.row.number ≡ true) (take l.reader-index l.fn.row.readers);
}
