use Rattle.jsp_wait.proofs.Seeking.{of_transactions}
use Rattle.jsp_wait.proofs.waiters.Waiters.askers_under.Goals as goal

pub askers-requires : goal.askers-requires
askers-requires c = λ seed b h. of_transactions seed c.args.transactions.now b h
