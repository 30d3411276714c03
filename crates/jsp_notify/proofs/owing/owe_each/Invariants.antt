use Rattle.std.proofs.Common.{◌≡◌, ◌++◌, map, take, drop}
use Rattle.jsp_notify.specs.Owing.{owed}
use Rattle.jsp_notify.proofs.owing.owe_each.Given as goal

abbrev pub invariant-places : goal.invariant-places
invariant-places l = l.registrations ≡ map (owed l.classes l.caller l.rows) (take l.place l.initial.registrations) ++ drop l.place l.initial.registrations
