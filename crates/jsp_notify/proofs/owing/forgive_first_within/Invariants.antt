use Rattle.std.proofs.Common.{◌≡◌, ◌++◌, map, take, drop}
use Rattle.jsp_notify.specs.Owing.{forgiven_within}
use Rattle.jsp_notify.proofs.owing.forgive_first_within.Given as goal

abbrev pub invariant-places : goal.invariant-places
invariant-places l =
    l.registrations ≡ map (forgiven_within l.classes l.caller l.row l.range.from l.range.below) (take l.place l.initial.registrations) ++ drop l.place l.initial.registrations
