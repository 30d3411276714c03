use Rattle.jsp_entries.proofs.Numbers.{one_more}
use Rattle.jsp_entries.proofs.write.numbers_from.Goals as goal

pub places-preserved : goal.places-preserved
places-preserved c = one_more c.args.first c.places.place c.places.numbers _ c.places.invariant c.in_ok-push.ensures.ok
