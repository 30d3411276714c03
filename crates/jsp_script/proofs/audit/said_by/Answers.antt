use Rattle.std.proofs.Common.{rules}
use Rattle.jsp_model.specs.Lookup.{empty}
use Rattle.jsp_script.proofs.Auditing.{no_illegal_step}
use Rattle.jsp_script.proofs.audit.said_by.Goals as goal

pub returns-in-Err-Illegal-clause-fault : goal.returns-in-Err-Illegal-clause-fault
returns-in-Err-Illegal-clause-fault c h =
    let none = no_illegal_step (empty c.args.config.now) c.args.steps.now h in
    let first = c.in-Err-Illegal.ensures.illegal in
    search (none, first, rules)
