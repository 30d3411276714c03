use Rattle.jsp_script.proofs.Parts.{one_part_sends_nothing}
use Rattle.jsp_script.proofs.script_line.raw.Goals as goal

pub returns-in_default : goal.returns-in_default
returns-in_default c s bytes is = one_part_sends_nothing c.args.rest.now s bytes (c.in_default.ensures.none s is.session) is
