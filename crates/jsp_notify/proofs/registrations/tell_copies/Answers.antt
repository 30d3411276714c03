use Rattle.jsp_notify.specs.News.{hearing}
use Rattle.jsp_table.proofs.Places.{one_more}
use Rattle.jsp_notify.proofs.registrations.tell_copies.Goals as goal

pub copies-preserved : goal.copies-preserved
copies-preserved c =
    one_more (hearing c.args.news.now) c.args.copies.now c.copies.copies c.copies.place _ _ c.copies-test.true c.copies.invariant c.in_ok-tell_copy.ensures
