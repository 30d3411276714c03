use Rattle.std.proofs.Common.{◌+◌}
use Rattle.jsp_model.specs.declared.state.Space.{Space}
use Rattle.jsp_table.proofs.Places.{changed_at}
use Rattle.jsp_transactions.proofs.resetting.count_crash.Goals as goal

pub returns-then-place-spaces : goal.returns-then-place-spaces
returns-then-place-spaces c = changed_at (λ (p : Space). record p { crash_count = p.crash_count + 1 }) c.args.spaces.now c.args.space _ c.if-place-spaces.true
