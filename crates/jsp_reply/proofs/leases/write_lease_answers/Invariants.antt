use Rattle.std.proofs.Common.{◌≡◌, ◌++◌, drop, map}
use Rattle.json.specs.Tree.{items_tokens}
use Rattle.serde_json.specs.Written.{items_outline}
use Rattle.serde_json.specs.View.{items_of}
use Rattle.jsp_reply.specs.Json.{lease_answer_data, list_data}
use Rattle.jsp_reply.specs.Tokens.{tokens_of}
use Rattle.jsp_reply.proofs.leases.write_lease_answers.Given as goal

-- what is written, and then the tokens of the items to come, are those of the whole list
abbrev pub invariant-loop-answer : goal.invariant-loop-answer
invariant-loop-answer l = record {
  before : l.out.before ≡ l.fn.out.before;
  tokens : l.out.tokens ++ items_tokens (items_outline (items_of (map lease_answer_data (drop l.answer-index l.answers))))
      ≡ l.fn.out.tokens ++ tokens_of (list_data lease_answer_data l.answers);
}
