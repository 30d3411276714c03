use Rattle.std.proofs.Common.{codes}
use Rattle.jsp_status.specs.Page.{count_row}
use Rattle.jsp_status.proofs.Appended.{appended-OnOk}
use Rattle.jsp_status.proofs.counts.push_opened.Goals as goal

pub returns : goal.returns
returns c =
    appended-OnOk c.push_row-2.result c.args.page.now.items c.push_row.new.page.items c.push_row-2.new.page.items
    (count_row (codes "connections") c.args.counts.now.open)
    (count_row (codes "connections so far") c.args.counts.now.total)
    c.in_ok-push_row.ensures c.push_row-2.ensures
