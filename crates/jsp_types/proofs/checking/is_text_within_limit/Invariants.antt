use Rattle.std.proofs.Common.{◌≡◌, ◌+◌, take, sum_by}
use Rattle.jsp_types.specs.Matching.{text_len, value_at}
use Rattle.jsp_types.proofs.checking.is_text_within_limit.Given as goal

abbrev pub invariant-loop-field : goal.invariant-loop-field
invariant-loop-field l = l.room + sum_by (λ f. text_len (value_at l.given f.0)) (take l.field-index l.fields) ≡ 8192
