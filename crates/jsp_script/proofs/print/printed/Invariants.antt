use Rattle.std.proofs.Common.{◌≡◌, flat_map, take}
use Rattle.jsp_script.specs.Print.{line_for}
use Rattle.jsp_script.proofs.print.printed.Given as goal

abbrev pub invariant-sent : goal.invariant-sent
invariant-sent l = l.text.items ≡ flat_map line_for (take l.sent-index l.sent)
