use Rattle.std.proofs.Common.{rules, arith}
use Rattle.std.proofs.lemmas.Grind.{common_steps}
use Rattle.std.proofs.lemmas.List.{take_rest}
use Rattle.std.proofs.Math.Seq.{take-add}
use Rattle.std.proofs.KnownBytes.{Appends-trans}
use Rattle.jsp_line.proofs.answer_writer.write_out.Goals as goal

pub writes-preserved : goal.writes-preserved
writes-preserved g c =
    let f = c.args.bytes.now in
    let at = c.writes.at in
    let n = c.write_once-taken.result in
    let was = c.writes.invariant in
    let b = c.write_once-taken.ensures.bound in (
      grind (arith, common_steps),
      rw (take-add at n f, ← take_rest f at) (Appends-trans _ _ _ _ _ was.1 c.write_once-taken.ensures.bytes),
      search rules,
    )
