use Rattle.std.proofs.Common.{◌∙◌}
use Rattle.std.proofs.lemmas.Result.{on_ok_weaker}
use Rattle.jsp_entries.proofs.Given.{read_none, read_just}
use Rattle.jsp_entries.proofs.giving.read_rows.Goals as goal

pub returns-in-empty-clause-ok : goal.returns-in-empty-clause-ok
returns-in-empty-clause-ok c = read_none c.args.x c.args.numbers.now c.args.rows.now c.in-empty.len_below

pub returns-in-len1-up-clause-ok : goal.returns-in-len1-up-clause-ok
returns-in-len1-up-clause-ok c =
    on_ok_weaker c.read.result
    (λ made. made ∙ read_just c.args.x c.args.numbers.now c.args.rows.now c.in-len1-up.len_at_least c.requires.one)
    c.read.ensures.ok
