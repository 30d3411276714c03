use Rattle.std.proofs.Common.{take}
use Rattle.jsp_model.specs.House.{Covers, OwesOnce}
use Rattle.jsp_house.proofs.owing.owe.Given as goal

abbrev pub invariant-loop-space : goal.invariant-loop-space
invariant-loop-space l = Covers l.debt.items l.initial.debt.items × Covers l.debt.items (take l.space-index l.spaces) × OwesOnce l.initial.debt.items l.debt.items
