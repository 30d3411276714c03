use Rattle.std.proofs.Common.{sym, subst}
use Rattle.jsp_floor.specs.Ending.{Settles}
use Rattle.jsp_floor.proofs.Ending.{settles_none, settles_then}
use Rattle.jsp_floor.proofs.end.settle_all.Goals as goal
use Rattle.jsp_floor.proofs.end.settle_all.Goals.{in-None, in-Some+in-Ok-Idle}

pub loop-init : goal.loop-init
loop-init g c = settles_none c.args.kept.now

pub loop-preserved-in-Idle-1 : goal.loop-preserved-in-Idle-1
loop-preserved-in-Idle-1 g c = settles_then c.args.kept.now c.loop.kept c.settle.new.self c.settle.ensures.performs.steps c.loop.invariant c.settle.ensures.performs.grows

pub loop-preserved : goal.loop-preserved
loop-preserved g c = settles_then c.args.kept.now c.loop.kept c.settle.new.self c.settle.ensures.performs.steps c.loop.invariant c.settle.ensures.performs.grows

pub returns-in-Err-clause-settles : goal.returns-in-Err-clause-settles
returns-in-Err-clause-settles g c = settles_then c.args.kept.now c.loop.kept c.settle.new.self c.settle.ensures.performs.steps c.loop.invariant c.settle.ensures.performs.grows

pub returns-clause-settles : goal.returns-clause-settles
returns-clause-settles g c = elim c.match-next.branch [
  | in-None w ↦ subst (Settles c.args.kept.now) (sym w.kept-is) c.loop.invariant
  | in-Some+in-Ok-Idle w ↦ subst (Settles c.args.kept.now) (sym w.kept-is) (settles_then c.args.kept.now c.loop.kept w.settle.new.self w.settle.ensures.performs.steps c.loop.invariant w.settle.ensures.performs.grows)
]
