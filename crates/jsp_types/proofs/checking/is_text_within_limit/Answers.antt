-- One more field takes its text from the room.
use Rattle.std.proofs.Common.{arith}
use Rattle.std.proofs.lemmas.List.Sums.{sum_by_more}
use Rattle.jsp_types.specs.Matching.{text_len, value_at}
use Rattle.jsp_types.proofs.checking.is_text_within_limit.Goals as goal

pub loop-field-preserved : goal.loop-field-preserved
loop-field-preserved c =
    let more = sum_by_more (λ f. text_len (value_at c.args.given.now f.0)) c.args.fields.now c.loop-field.field-index c.field-item.result (omega arith) in
    grind (arith, more)
