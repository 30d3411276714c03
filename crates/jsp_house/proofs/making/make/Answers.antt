use Rattle.std.proofs.Common.{sym, ◌∙◌}
use Rattle.jsp_house.proofs.Logging.{keeps_step}
use Rattle.jsp_house.proofs.making.make.Goals as goal

pub returns-clause-keeps : goal.returns-clause-keeps
returns-clause-keeps c =
    keeps_step c.args.image.now c.make_within.new.image c.args.step c.args.bound _ _ c.in_ok-make_within.ensures.made (sym c.is_full.ensures ∙ c.if-is_full.false)
    c.in_ok-make_within.ensures.len c.in_ok-make_within.ensures.room
