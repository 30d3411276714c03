use Rattle.std.proofs.Common.{ap}
use Rattle.jsp_line.proofs.Turning.{reads_nothing}
use Rattle.jsp_line.proofs.Writing.{writes_nothing}
use Rattle.jsp_line.proofs.shared.Shared.turn_away.Goals as goal

pub returns-clause-reads : goal.returns-clause-reads
returns-clause-reads g c =
    rw (ap g.R.Read.remaining c.new.ensures.inner, c.requires.asked) (reads_nothing c.args.asks.session (g.R.Read.remaining c.args.reader) c.new-2.result c.new-2.ensures.bytes c.new-2.ensures.room)

pub returns-clause-writes : goal.returns-clause-writes
returns-clause-writes g c =
    rw (ap g.W.Write.contents c.new-3.ensures.inner, c.new-3.ensures.none) (writes_nothing (g.W.Write.contents c.args.writer) c.args.outs.count c.new-4.result c.requires.taken c.new-4.ensures.bytes c.new-4.ensures.room)
