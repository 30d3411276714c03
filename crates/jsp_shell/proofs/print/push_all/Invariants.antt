-- what was written so far
use Rattle.std.proofs.Common.{◌≡◌, ◌++◌}
use Rattle.std.specs.List.{flat_map}
use Rattle.std.specs.String.{string_bytes}
use Rattle.jsp_shell.specs.Printed.{shown}
use Rattle.jsp_shell.proofs.print.push_all.Given as goal

abbrev pub invariant-characters : goal.invariant-characters
invariant-characters l = string_bytes l.line ≡ string_bytes l.initial.line ++ flat_map (shown l.said) l.yielded
