use Rattle.std.proofs.Common.{◌≡◌, map, take}
use Rattle.jsp_notify.specs.Owing.{owed}
use Rattle.jsp_notify.proofs.hinted.HintedRegistrations.owe_all.Given as goal

abbrev pub invariant-rows : goal.invariant-rows
invariant-rows l = l.self ≡ map (owed l.classes l.caller (take l.place l.rows)) l.fn.self
