use Rattle.jsp_keyed.proofs.Keeping.{cancelled}
use Rattle.jsp_keyed.proofs.adding.cancel.Goals as goal

pub returns : goal.returns
returns c = cancelled c.args.ends.now c.cancel.new.self c.args.number c.cancel.result c.cancel.ensures.answer c.cancel.ensures.ok c.cancel.ensures.err
