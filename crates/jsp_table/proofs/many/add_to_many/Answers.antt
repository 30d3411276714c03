use Rattle.std.proofs.lemmas.Map.Keys.{below_from_sorted}
use Rattle.jsp_table.proofs.Next.{one_more}
use Rattle.jsp_table.proofs.many.add_to_many.Goals as goal

pub returns-in_err-insert-clause-increasing : goal.returns-in_err-insert-clause-increasing
returns-in_err-insert-clause-increasing c i j less lt = below_from_sorted c.insert.new.self.keys i j 0 c.in_err-insert.ensures.ordered less lt

pub returns-clause-increasing : goal.returns-clause-increasing
returns-clause-increasing c i j less lt = below_from_sorted c.insert.new.self.keys i j 0 c.in_ok-insert.ensures.ordered less lt

pub returns-clause-keeps : goal.returns-clause-keeps
returns-clause-keeps c m h = one_more c.args.numbers.now.keys c.insert.new.self.keys c.args.number m (c.in_ok-insert.ensures.updates.0 m) h
