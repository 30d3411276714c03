use Rattle.std.proofs.Common.{◌∙◌}
use Rattle.jsp_state.proofs.Rising.{rising_is}
use Rattle.jsp_state.proofs.choices.is_rising.Goals as goal

pub returns : goal.returns
returns c = c.each_below_next.ensures ∙ rising_is c.args.numbers.now
