use Rattle.std.proofs.Common.{◌≡◌, map, take}
use Rattle.jsp_notify.specs.Owing.{forgiven}
use Rattle.jsp_notify.proofs.hinted.HintedRegistrations.forgive_all.Given as goal

abbrev pub invariant-rows : goal.invariant-rows
invariant-rows l = l.self ≡ map (forgiven l.classes l.caller (take l.row-index l.rows)) l.fn.self
