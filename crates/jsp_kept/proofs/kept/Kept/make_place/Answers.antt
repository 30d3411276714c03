use Rattle.std.proofs.Common.{arith}
use Rattle.jsp_kept.proofs.Growing.{grows_none, grows_sealed, prepares_none, prepares_sealed}
use Rattle.jsp_kept.proofs.Stopping.{begins_anew, ends_anew, ends_as_before, goes_on}
use Rattle.jsp_kept.proofs.kept.Kept.make_place.Goals as goal

pub returns-then-len-self-clause-grows : goal.returns-then-len-self-clause-grows
returns-then-len-self-clause-grows g c = grows_sealed _ _ c.seal.ensures (rw (← c.self.view_is) (omega (arith, c.if-len-self.true, c.self.invariant.limit)))

pub returns-then-len-self-clause-prepares : goal.returns-then-len-self-clause-prepares
returns-then-len-self-clause-prepares g c = prepares_sealed _ _ c.seal.ensures (rw (← c.self.view_is) (omega (arith, c.if-len-self.true, c.self.invariant.limit)))

pub returns-else-len-self-clause-grows : goal.returns-else-len-self-clause-grows
returns-else-len-self-clause-grows g c = grows_none c.args.self.now

pub returns-else-len-self-clause-prepares : goal.returns-else-len-self-clause-prepares
returns-else-len-self-clause-prepares g c = prepares_none c.args.self.now

pub returns-then-len-self-clause-begun : goal.returns-then-len-self-clause-begun
returns-then-len-self-clause-begun g c = begins_anew _ _ c.seal.ensures (rw (← c.self.view_is) (omega (arith, c.if-len-self.true, c.self.invariant.limit)))

pub returns-then-len-self-clause-limit : goal.returns-then-len-self-clause-limit
returns-then-len-self-clause-limit g c = ends_anew _ _ c.seal.ensures (rw (← c.self.view_is) (omega (arith, c.if-len-self.true, c.self.invariant.limit)))

pub returns-else-len-self-clause-begun : goal.returns-else-len-self-clause-begun
returns-else-len-self-clause-begun g c = goes_on c.args.self.now (rw (← c.self.view_is) (omega (arith, c.if-len-self.false, c.self.invariant.limit)))

pub returns-else-len-self-clause-limit : goal.returns-else-len-self-clause-limit
returns-else-len-self-clause-limit g c = ends_as_before c.args.self.now (rw (← c.self.view_is) (omega (arith, c.if-len-self.false, c.self.invariant.limit)))
