use Rattle.std.proofs.Common.{◌≡◌, take}
use Rattle.jsp_notify.specs.Owing.{owed}
use Rattle.jsp_notify.proofs.owing.owe.Given as goal

abbrev pub invariant-rows : goal.invariant-rows
invariant-rows l = l.registration ≡ owed l.classes l.caller (take l.row-index l.rows) l.initial.registration
