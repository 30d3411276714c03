use Rattle.std.proofs.Common.{◌≡◌, ℕ, ◌-◌, take}
use Rattle.jsp_table.specs.Counts.{count_of}
use Rattle.jsp_index.specs.Counted.{count_in}
use Rattle.jsp_index.proofs.counting.uncount_all.Given as goal

abbrev pub invariant-rows : goal.invariant-rows
invariant-rows l = (space : ℕ) → count_of l.counts space ≡ count_of l.fn.counts space - count_in space (take l.row-index l.rows)
