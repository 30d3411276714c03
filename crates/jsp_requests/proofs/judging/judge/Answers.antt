use Rattle.std.proofs.Common.{sym, ◌∙◌}
use Rattle.jsp_requests.proofs.Asking.{own_good}
use Rattle.jsp_requests.proofs.judging.judge.Goals as goal

pub judge_rows-requires-clause-accepted : goal.judge_rows-requires-clause-accepted
judge_rows-requires-clause-accepted c =
    own_good c.args.state.now c.args.session c.args.id c.args.ask.now (sym c.in_ok-refusal.ensures ∙ c.in-None.is)
