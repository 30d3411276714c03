use Rattle.std.proofs.Common.{◌∙◌}
use Rattle.jsp_sight.proofs.Earliest.{first_is_sooner}
use Rattle.jsp_notify.specs.Registered.{registration_end}
use Rattle.jsp_notify.proofs.scanned.first_over.Goals as goal

pub returns : goal.returns
returns c = c.last_to_first.ensures ∙ first_is_sooner c.args.time registration_end c.args.registrations.now
