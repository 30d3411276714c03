use Rattle.std.proofs.Common.{ap, ◌∙◌}
use Rattle.jsp_decided.specs.Recording.{rows_after}
use Rattle.jsp_decided.proofs.Resetting.{reset_after}
use Rattle.jsp_decided.proofs.decided.DecidedRows.record_reset.Goals as goal

pub returns-clause-ok : goal.returns-clause-ok
returns-clause-ok c =
    let stored = c.args.self.now.stored in
    ap (λ ds. rows_after ds stored) c.in_ok-push.ensures.items ∙ reset_after c.args.space c.args.self.now.recorded.items stored
