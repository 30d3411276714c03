use Rattle.std.proofs.Common.{arith}
use Rattle.std.proofs.lemmas.Grind.{common_steps}
use Rattle.jsp_shell.specs.Printed.{line_of}
use Rattle.jsp_shell.proofs.Plain.{line-plain}
use Rattle.jsp_shell.proofs.print.line.Goals as goal
use Rattle.jsp_shell.proofs.print.line.Goals.{then-has_control+in_ok-push_all, else-has_control+in_ok-push_str}

pub returns : goal.returns
unfolding line_of
returns c =
    elim c.if-has_control.branch [
      | then-has_control+in_ok-push_all w ↦ grind (arith, common_steps)
      | else-has_control+in_ok-push_str w ↦
          let plain = line-plain c.args.said c.args.text.now c.utf8.text (cc) in
          grind (arith, common_steps)
    ]
