use Rattle.jsp_machine.proofs.Chosen.{read_is_given_one}
use Rattle.jsp_machine.proofs.Sequences.{sequences_fit}
use Rattle.jsp_machine.proofs.step_change.change.Goals as goal

pub grant-requires-clause-one : goal.grant-requires-clause-one
grant-requires-clause-one c =
    rw c.as_slice-in-Grant.ensures (read_is_given_one c.args.state.now c.in-Grant.blocked c.in-Grant.rows c.requires.limits (rw c.in-Grant.is at c.requires.choice))

pub tell-requires : goal.tell-requires
tell-requires c = sequences_fit c.args.state.now c.requires.limits
