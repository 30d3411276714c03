use Rattle.std.proofs.Common.{◌∙◌, sym}
use Rattle.std.proofs.lemmas.Result.{on_ok_weaker}
use Rattle.jsp_entries.proofs.Given.{give_removes, give_leaves, give_takes, give_reads}
use Rattle.jsp_entries.proofs.giving.give.Goals as goal

pub returns-then-is_take-clause-ok : goal.returns-then-is_take-clause-ok
returns-then-is_take-clause-ok c = c.remove_all.ensures ∙ give_removes c.args.state.now c.args.form c.args.caller c.args.rows.now c.in-None.is (sym c.if-is_take.ensures)

pub returns-else-is_take-clause-ok : goal.returns-else-is_take-clause-ok
returns-else-is_take-clause-ok c = give_leaves c.args.state.now c.args.form c.args.caller c.args.rows.now c.in-None.is (sym c.if-is_take.ensures)

pub returns-then-is_take-2-clause-ok : goal.returns-then-is_take-2-clause-ok
returns-then-is_take-2-clause-ok c =
    on_ok_weaker c.take_all.result (λ made. made ∙ give_takes c.args.state.now c.args.form c.args.caller c.args.rows.now c.in-Some.x c.in-Some.is (sym c.if-is_take-2.ensures)) c.take_all.ensures.ok

pub returns-else-is_take-2-clause-ok : goal.returns-else-is_take-2-clause-ok
returns-else-is_take-2-clause-ok c =
    on_ok_weaker c.read_all.result (λ made. made ∙ give_reads c.args.state.now c.args.form c.args.caller c.args.rows.now c.in-Some.x c.in-Some.is (sym c.if-is_take-2.ensures)) c.read_all.ensures.ok
