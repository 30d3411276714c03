use Rattle.std.proofs.Common.{◌≡◌, ◌++◌, take}
use Rattle.std.specs.List.{flat_map}
use Rattle.jsp_status.specs.Metrics.{refusal_sample}
use Rattle.jsp_status.proofs.metrics.push_refusals.Given as goal

abbrev pub invariant-refusals : goal.invariant-refusals
invariant-refusals l =
    l.text.items ≡ l.initial.text.items ++ flat_map refusal_sample (take l.refusal-index l.refusals)
