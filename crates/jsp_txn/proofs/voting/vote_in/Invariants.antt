use Rattle.std.proofs.Common.{◌≡◌, ◌++◌, map, take, drop}
use Rattle.jsp_txn.specs.Voting.{voting_in}
use Rattle.jsp_txn.proofs.voting.vote_in.Given as goal

abbrev pub invariant-joined : goal.invariant-joined
invariant-joined l = l.joined ≡ map (voting_in l.space l.vote) (take l.one-index l.initial.joined) ++ drop l.one-index l.initial.joined
