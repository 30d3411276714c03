use Rattle.std.proofs.Common.{◌∙◌}
use Rattle.jsp_notify.specs.News.{all_told}
use Rattle.jsp_notify.proofs.Told.{one_more_told}
use Rattle.jsp_notify.proofs.untold.tell_spaces.Goals as goal

pub spaces-preserved : goal.spaces-preserved
spaces-preserved c = (
  c.tell_all_in.ensures.same ∙ c.spaces.invariant.0,
  one_more_told (all_told c.spaces.news) (all_told c.tell_all_in.new.news) c.args.spaces.now c.spaces.space-index _ c.spaces-test.true c.tell_all_in.ensures.keeps c.spaces.invariant.1 c.in_ok-tell_all_in.ensures.all,
)
