use Rattle.std.proofs.Common.{ℕ, List, ap, subst}
use Rattle.std.specs.Prelude.{Option}
use Rattle.jsp_line.specs.Reading.{Reads}
use Rattle.jsp_line.proofs.Turning.{goes_start}
use Rattle.jsp_line.proofs.shared.Shared.read_worker.Goals as goal

pub returns-clause-reads : goal.returns-clause-reads
returns-clause-reads g c =
    let s = c.args.seat.session in
    let n = c.args.seat.count in
    let left = g.R.Read.remaining c.new-reader.result.inner in
    let done = c.read_turns-ended in
    let on = goes_start s left c.new-transcript.result c.new-line.result n c.new-transcript.ensures.bytes c.new-transcript.ensures.room (c.new-line.ensures.stream s) in
    subst (λ (before : Option (List ℕ)). Reads s before (g.R.Read.remaining done.new.reader.inner) done.new.transcript done.result n done.new.seat.count) (ap g.R.Read.remaining c.new-reader.ensures.inner)
    (done.ensures.reads left n on)
