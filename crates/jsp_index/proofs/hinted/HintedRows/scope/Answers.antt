use Rattle.std.proofs.Common.{sym, subst}
use Rattle.jsp_index.specs.declared.starts.Unseen.{Unseen}
use Rattle.jsp_index.specs.declared.starts.Unseen.TheVariants.{Taken}
use Rattle.jsp_index.specs.Passed.{is_had, AreOpen, AreOpenOr}
use Rattle.jsp_index.proofs.Having.{had_in, had_untaken, open_or_none}
use Rattle.jsp_index.proofs.hinted.HintedRows.scope.Goals as goal

pub returns-in-None-clause-opens : goal.returns-in-None-clause-opens
returns-in-None-clause-opens c =
    let had = is_had c.args.sought.now.space c.args.sought.now.takes c.args.sought.now.transaction in
    open_or_none c.unseen_by_strangers.result had c.args.self.now (subst (λ (u : Unseen). AreOpen u had c.args.self.now) (sym c.unseen_by_strangers.ensures) (c.in-None.ensures.none c.args.sought.now.takes))

pub returns-in-Some-clause-opens : goal.returns-in-Some-clause-opens
returns-in-Some-clause-opens c = subst (λ (u : Unseen). AreOpenOr u c.in-Some.own.now (is_had c.args.sought.now.space c.args.sought.now.takes c.args.sought.now.transaction) c.args.self.now) (sym c.unseen_by_strangers-in-Some.ensures) (c.in-Some.ensures.some c.args.sought.now.takes)

pub returns-in-Some-2-clause-opens : goal.returns-in-Some-2-clause-opens
returns-in-Some-2-clause-opens c =
    let takes = c.args.sought.now.takes in
    let space = c.args.sought.now.space in
    let x = c.args.sought.now.transaction in
    open_or_none Taken (is_had space takes x) c.args.self.now (had_in Taken space takes x c.args.self.now (had_untaken takes x c.args.self.now))

pub returns-in-Some-2-clause-many : goal.returns-in-Some-2-clause-many
returns-in-Some-2-clause-many c = c.in-Some.ensures.some c.args.sought.now.takes
