use Rattle.std.proofs.lemmas.Result.{IfOk-weaker}
use Rattle.jsp_machine.proofs.JudgedRequests.{fits_choice}
use Rattle.jsp_house.proofs.LeastRows.{least_chosen}
use Rattle.jsp_house.proofs.choosing.choose_rows.Goals as goal

pub returns-in-Rows : goal.returns-in-Rows
returns-in-Rows c =
    let wanted = c.in-Rows.wanted in
    IfOk-weaker c.choose.result _ _
    (λ ns h. fits_choice c.args.state.now c.args.judged.now wanted ns c.in-Rows.is (least_chosen c.args.state.now wanted.request ns c.requires h))
    c.choose.ensures
