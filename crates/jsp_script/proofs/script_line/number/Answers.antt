use Rattle.jsp_script.proofs.Parts.{digits_are_text}
use Rattle.jsp_script.proofs.script_line.number.Goals as goal

pub returns-in-Err : goal.returns-in-Err
returns-in-Err c n names = c.in-Err.ensures.cases.0 (digits_are_text c.args.text.now names.0)
