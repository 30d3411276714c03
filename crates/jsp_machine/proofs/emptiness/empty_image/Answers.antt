use Rattle.jsp_limits.proofs.AtFirst.{limits_at_first}
use Rattle.jsp_machine.proofs.emptiness.empty_image.Goals as goal

pub invariant_of-result : goal.invariant_of-result
invariant_of-result c =
    rw (c.new.ensures, c.new-2.ensures, c.new-3.ensures, c.new-4.ensures, c.new-5.ensures, c.new-6.ensures, c.new-7.ensures, c.new-8.ensures, c.new-9.ensures, c.in_ok-spaces.ensures, c.spaces.ensures.names)
    (limits_at_first c.args.config.now c.spaces.ensures.limits)
