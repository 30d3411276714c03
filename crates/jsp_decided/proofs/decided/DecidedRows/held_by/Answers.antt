use Rattle.std.proofs.lemmas.Result.{IfOk-weaker}
use Rattle.jsp_decided.proofs.Numbered.{held_later}
use Rattle.jsp_decided.proofs.decided.DecidedRows.held_by.Goals as goal

pub returns : goal.returns
returns c = IfOk-weaker c.held_by.result _ _ (λ v is. held_later c.args.x c.args.space v.items c.args.self.now.recorded.items c.args.self.now.stored is) c.held_by.ensures
