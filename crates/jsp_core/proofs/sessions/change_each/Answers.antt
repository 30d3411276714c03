use Rattle.jsp_core.specs.Numbering.{versioned}
use Rattle.jsp_table.proofs.Places.{one_more}
use Rattle.jsp_core.proofs.sessions.change_each.Goals as goal

pub sessions-preserved : goal.sessions-preserved
sessions-preserved c = one_more (versioned c.args.number c.args.version) _ _ _ _ _ c.sessions-test.true c.sessions.invariant c.change_one.ensures
