use Rattle.std.proofs.Common.{◌∙◌}
use Rattle.jsp_machine.proofs.JudgedRequests.{fits_is}
use Rattle.jsp_machine.proofs.choosing.has_its_rows.Goals as goal

pub returns : goal.returns
returns c = c.fits.ensures ∙ fits_is c.args.state.now c.args.session c.args.asked.now.id c.args.asked.now.ask c.args.rows.now c.args.judged.now c.requires
