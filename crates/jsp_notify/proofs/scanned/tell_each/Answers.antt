use Rattle.std.proofs.Common.{◌∙◌}
use Rattle.jsp_notify.proofs.Telling.{told_exactly}
use Rattle.jsp_notify.proofs.scanned.tell_each.Goals as goal

pub returns : goal.returns
returns c = c.tell_numbered.ensures ∙ told_exactly c.args.number c.args.registrations.now c.requires
