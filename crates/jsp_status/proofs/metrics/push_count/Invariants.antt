use Rattle.std.proofs.Common.{◌≡◌, ◌++◌, take}
use Rattle.std.specs.List.{flat_map}
use Rattle.jsp_status.specs.Metrics.{space_sample}
use Rattle.jsp_status.proofs.metrics.push_count.Given as goal

abbrev pub invariant-spaces : goal.invariant-spaces
invariant-spaces l =
    l.text.items ≡ l.initial.text.items ++ flat_map (space_sample l.metric l.count) (take l.space-index l.spaces)
