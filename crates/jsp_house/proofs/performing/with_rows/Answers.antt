use Rattle.jsp_machine.proofs.JudgedRequests.{fits_step}
use Rattle.jsp_house.proofs.performing.with_rows.Goals as goal

pub returns-in_ok-rows-in-Ask-clause-rows : goal.returns-in_ok-rows-in-Ask-clause-rows
returns-in_ok-rows-in-Ask-clause-rows c =
    let asked = c.in-Ask.asked in
    let judged = c.in_ok-judged-in-Ask in
    let rows = c.in_ok-rows-in-Ask in
    fits_step c.args.state.now c.in-Ask.session asked.id asked.ask rows.rows judged.judged c.id.result c.ask.result.now judged.ensures c.id.ensures c.ask.ensures.asked rows.ensures
