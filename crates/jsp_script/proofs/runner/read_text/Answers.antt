use Rattle.std.proofs.Common.{ap, arith}
use Rattle.jsp_script.proofs.Reading.{all_read}
use Rattle.jsp_script.proofs.runner.read_text.Goals as goal

pub returns-in-Ok-2-clause-bytes : goal.returns-in-Ok-2-clause-bytes
returns-in-Ok-2-clause-bytes g c =
    all_read (g.R.Read.remaining c.args.reader.now) (g.R.Read.remaining c.take.result.inner.now) c.take.result.limit c.new-text.result.items c.read_to_end.new.buf.items
    (ap (λ r. g.R.Read.remaining r.now) c.take.ensures.inner) c.take.ensures.limit c.new-text.ensures.items c.in-Ok-2.ensures.bytes (omega (arith, c.len.ensures, c.read_to_end.new.buf.ok.0))
