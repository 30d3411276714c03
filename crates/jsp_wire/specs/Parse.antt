-- What reading a payload as JSON gives.
use Rattle.std.specs.Prelude.{◌≡◌, Option, Some, None, Result, Ok, Err}
use Rattle.serde_json.specs.Data.{Data}
use Rattle.jsp_wire.specs.declared.fault.Flaw.{Flaw}
use Rattle.jsp_wire.specs.declared.fault.Flaw.TheVariants.{Refused, Memory}
use Rattle.jsp_wire.specs.declared.tree.Tree.{Tree}
use Rattle.jsp_wire.specs.Tree.{view}

-- what was parsed is the JSON that the payload is, unless memory ran out
abbrev pub Parses : Result Tree Flaw → Option Data → Type 0
Parses (Ok v) read = read ≡ Some (view v)
Parses (Err Refused) read = read ≡ None
Parses (Err Memory) read = Unit {0}
