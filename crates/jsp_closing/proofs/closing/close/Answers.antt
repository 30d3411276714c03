use Rattle.jsp_closing.proofs.Ending.{is_last}
use Rattle.jsp_closing.proofs.closing.close.Goals as goal

pub returns-then-is_sealed-clause-ok : goal.returns-then-is_sealed-clause-ok
returns-then-is_sealed-clause-ok c = is_last c.args.config.now c.args.era c.requires
