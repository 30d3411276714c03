-- A hello, which is never refused.
use Rattle.std.specs.Prelude.{Bool, true, false}
use Rattle.jsp_wire.specs.declared.ask.Ask.{Ask}
use Rattle.jsp_wire.specs.declared.ask.Ask.TheVariants as ask

abbrev pub greets : Ask → Bool
greets (ask.Hello version) = true
greets _ = false
