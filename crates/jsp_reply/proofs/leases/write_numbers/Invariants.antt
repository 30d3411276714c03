use Rattle.std.proofs.Common.{◌≡◌, ◌++◌, drop, map}
use Rattle.json.specs.Tree.{items_tokens}
use Rattle.serde_json.specs.Written.{items_outline}
use Rattle.serde_json.specs.View.{items_of}
use Rattle.jsp_reply.specs.Json.{count, list_data}
use Rattle.jsp_reply.specs.Tokens.{tokens_of}
use Rattle.jsp_reply.proofs.leases.write_numbers.Given as goal

-- what is written, and then the tokens of the items to come, are those of the whole list
abbrev pub invariant-loop-number : goal.invariant-loop-number
invariant-loop-number l = record {
  before : l.out.before ≡ l.fn.out.before;
  tokens : l.out.tokens ++ items_tokens (items_outline (items_of (map count (drop l.number-index l.numbers))))
      ≡ l.fn.out.tokens ++ tokens_of (list_data count l.numbers);
}
