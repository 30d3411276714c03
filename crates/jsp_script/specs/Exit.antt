-- What the shell is told of how a script ended.
use Rattle.std.specs.Prelude.{ℕ}
use Rattle.jsp_script.specs.declared.runner.Status.{Status}
use Rattle.jsp_script.specs.declared.runner.Status.TheVariants.{Done, Failed}

abbrev pub exit_of : Status → ℕ
exit_of Done = 0
exit_of Failed = 1
