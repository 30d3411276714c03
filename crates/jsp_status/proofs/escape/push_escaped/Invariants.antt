-- what was written so far
use Rattle.std.proofs.Common.{◌≡◌, ◌++◌, take}
use Rattle.std.specs.List.{flat_map}
use Rattle.jsp_status.specs.Escape.{escape_of}
use Rattle.jsp_status.proofs.escape.push_escaped.Given as goal

abbrev pub invariant-bytes : goal.invariant-bytes
invariant-bytes l = l.page.items ≡ l.initial.page.items ++ flat_map escape_of (take l.byte-index l.byte-items)
