use Rattle.jsp_txn.specs.Voting.{voting_in}
use Rattle.jsp_table.proofs.Places.{one_more}
use Rattle.jsp_txn.proofs.voting.vote_in.Goals as goal

pub joined-preserved : goal.joined-preserved
joined-preserved c = one_more (voting_in c.args.space c.args.vote) _ _ _ _ _ c.joined-test.true c.joined.invariant c.vote_at.ensures
