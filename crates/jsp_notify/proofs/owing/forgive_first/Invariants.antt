use Rattle.std.proofs.Common.{◌≡◌, ◌++◌, map, take, drop}
use Rattle.jsp_notify.specs.Owing.{forgiven}
use Rattle.jsp_notify.proofs.owing.forgive_first.Given as goal

abbrev pub invariant-places : goal.invariant-places
invariant-places l = l.registrations ≡ map (forgiven l.classes l.caller l.rows) (take l.place l.initial.registrations) ++ drop l.place l.initial.registrations
