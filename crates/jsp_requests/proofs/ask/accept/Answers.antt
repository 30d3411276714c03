use Rattle.jsp_requests.proofs.ask.accept.Goals as goal

pub returns-in-Next-clause-ok : goal.returns-in-Next-clause-ok
returns-in-Next-clause-ok c = rw c.in-Next.is c.turn_page.ensures
