use Rattle.std.proofs.lemmas.Map.Keys.{below_from_sorted}
use Rattle.jsp_table.proofs.Next.{one_less}
use Rattle.jsp_table.proofs.many.remove_from_many.Goals as goal

pub returns-clause-increasing : goal.returns-clause-increasing
returns-clause-increasing c i j less lt = below_from_sorted c.remove.new.self.keys i j 0 c.remove.ensures.ordered less lt

pub returns-clause-keeps : goal.returns-clause-keeps
returns-clause-keeps c m ne h = one_less c.args.numbers.now.keys c.remove.new.self.keys c.args.number m ne (c.remove.ensures.updates.0 m) h
