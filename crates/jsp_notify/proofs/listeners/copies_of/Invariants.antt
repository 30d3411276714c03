use Rattle.std.proofs.Common.{◌≡◌, take}
use Rattle.jsp_notify.proofs.listeners.copies_of.Given as goal

abbrev pub invariant-rows : goal.invariant-rows
invariant-rows l = l.copies ≡ take l.row-index l.rows
