use Rattle.std.proofs.Common.{◌≡◌, ◌++◌, take}
use Rattle.std.specs.List.{flat_map}
use Rattle.jsp_status.specs.Page.{space_row}
use Rattle.jsp_status.proofs.page.push_spaces.Given as goal

abbrev pub invariant-spaces : goal.invariant-spaces
invariant-spaces l =
    l.page.items ≡ l.initial.page.items ++ flat_map space_row (take l.space-index l.spaces)
