use Rattle.jsp_closing.proofs.Histories.{other_is}
use Rattle.jsp_closing.proofs.Rereading.{give_none, asks_none}
use Rattle.jsp_closing.proofs.asked.step_again.Goals as goal

pub returns-in_default-clause-gave : goal.returns-in_default-clause-gave
returns-in_default-clause-gave c = give_none c.args.step _ (asks_none c.args.step c.in_default.not-Ask c.in_default.not-Fault)

pub returns-in_default-clause-only : goal.returns-in_default-clause-only
returns-in_default-clause-only c = λ wanted h. other_is c.args.step wanted c.in_default.not-Ask c.in_default.not-Fault h.same
