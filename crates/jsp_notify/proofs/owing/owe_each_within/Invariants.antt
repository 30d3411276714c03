use Rattle.std.proofs.Common.{◌≡◌, ◌++◌, map, take, drop}
use Rattle.jsp_notify.specs.Owing.{owed_within}
use Rattle.jsp_notify.proofs.owing.owe_each_within.Given as goal

abbrev pub invariant-places : goal.invariant-places
invariant-places l =
    l.registrations ≡ map (owed_within l.classes l.caller l.row l.range.from l.range.below) (take l.place l.initial.registrations) ++ drop l.place l.initial.registrations
