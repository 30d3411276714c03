use Rattle.std.proofs.Common.{arith}
use Rattle.jsp_notify.proofs.news.News.tell_next.Goals as goal

pub count_one_more-requires-clause-fits : goal.count_one_more-requires-clause-fits
count_one_more-requires-clause-fits c = omega (arith, c.requires, c.owe_row.ensures.fits, c.make_room_for_count.ensures.same c.args.space)
