use Rattle.std.proofs.Common.{OnOk}
use Rattle.std.proofs.lemmas.Result.{on_ok_weaker}
use Rattle.jsp_model.specs.Lookup.{empty}
use Rattle.jsp_model.specs.Runs.{IsRun}
use Rattle.jsp_laws.proofs.Laws.{laws_of_runs}
use Rattle.jsp_machine.proofs.replaying.replay.Goals as goal

pub returns-clause-laws : goal.returns-clause-laws
returns-clause-laws c =
    let run : OnOk c.replay_from.result (IsRun (empty c.args.config.now) c.args.steps.now) = rw c.in_ok-base.ensures at c.replay_from.ensures.run in
    on_ok_weaker c.replay_from.result (λ r. laws_of_runs c.args.config.now c.args.steps.now r) run
