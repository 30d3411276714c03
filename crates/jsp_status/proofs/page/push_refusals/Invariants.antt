use Rattle.std.proofs.Common.{◌≡◌, ◌++◌, take}
use Rattle.std.specs.List.{flat_map}
use Rattle.jsp_status.specs.Page.{refusal_row}
use Rattle.jsp_status.proofs.page.push_refusals.Given as goal

abbrev pub invariant-refusals : goal.invariant-refusals
invariant-refusals l =
    l.page.items ≡ l.initial.page.items ++ flat_map refusal_row (take l.refusal-index l.refusals)
