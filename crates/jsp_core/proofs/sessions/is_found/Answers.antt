use Rattle.std.proofs.Common.{◌∙◌}
use Rattle.jsp_core.proofs.Searching.{has_it}
use Rattle.jsp_core.proofs.sessions.is_found.Goals as goal

pub returns : goal.returns
returns c = c.is_ok.ensures.value ∙ has_it c.args.sessions.now c.args.number c.search.result c.search.ensures.found c.search.ensures.absent
