use Rattle.jsp_house.proofs.Order.{covers_itself}
use Rattle.jsp_house.proofs.finishing.make_owing.Goals as goal

pub returns-in_err-spaces-clause-stays : goal.returns-in_err-spaces-clause-stays
returns-in_err-spaces-clause-stays c = covers_itself c.args.debt.now.items
