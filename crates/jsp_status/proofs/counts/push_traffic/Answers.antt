use Rattle.std.proofs.Common.{codes, ◌++◌}
use Rattle.jsp_status.specs.Page.{count_row, rate_row}
use Rattle.jsp_status.proofs.Appended.{appended, appended-OnOk}
use Rattle.jsp_status.proofs.counts.push_traffic.Goals as goal

pub returns : goal.returns
returns c =
    let s = c.args.status.now in
    let old = c.args.page.now.items in
    let requests = count_row (codes "requests") s.requests in
    let answers = count_row (codes "answers") s.answers in
    let requests_rate = rate_row (codes "requests a second") s.rates.requests in
    let answers_rate = rate_row (codes "answers a second") s.rates.answers in
    let refusals_rate = rate_row (codes "refusals a second") s.rates.refusals in
    let two = appended old c.push_row.new.page.items c.push_row-2.new.page.items requests answers c.in_ok-push_row.ensures c.in_ok-push_row-2.ensures in
    let three = appended old c.push_row-2.new.page.items c.push_row-3.new.page.items (requests ++ answers) requests_rate two c.in_ok-push_row-3.ensures in
    let four = appended old c.push_row-3.new.page.items c.push_row-4.new.page.items (requests ++ answers ++ requests_rate) answers_rate three c.in_ok-push_row-4.ensures in
    appended-OnOk c.push_row-5.result old c.push_row-4.new.page.items c.push_row-5.new.page.items
    (requests ++ answers ++ requests_rate ++ answers_rate) refusals_rate four c.push_row-5.ensures
