use Rattle.std.proofs.Common.{◌<◌, ap, arith}
use Rattle.jsp_lease.specs.Leases.{Leased}
use Rattle.jsp_table.specs.Places.{living}
use Rattle.jsp_keyed.proofs.Ending.{last_below}
use Rattle.jsp_keyed.proofs.ends.make_ready.Goals as goal
use Rattle.jsp_keyed.proofs.ends.make_ready.Goals.{then-last-first+in_ok-ends, else-last-first}

pub returns-clause-last : goal.returns-clause-last
returns-clause-last g c =
    let less : c.if-last-first.ends.last < c.args.first = elim c.if-last-first.branch [
      | then-last-first+in_ok-ends w ↦
          let low = last_below g.K.Numbering.number_of g.K.Keying.end_of g.K.Keying.rank_of c.args.first (living c.args.places.now) c.requires.above c.requires.below in
          omega (arith, low, ap (λ (l : Leased). l.last) w.ends-is, w.in_ok-ends.ensures.last)
      | else-last-first w ↦ omega (arith, ap (λ (l : Leased). l.last) w.ends-is, w.if-last-first.false, c.last.ensures.value)
    ] in
    omega (arith, less, c.in_ok-reserve.ensures.ok.last)
