use Rattle.std.proofs.Common.{◌≡◌, ◌++◌, drop, map}
use Rattle.json.specs.Tree.{items_tokens}
use Rattle.serde_json.specs.Written.{items_outline}
use Rattle.serde_json.specs.View.{items_of}
use Rattle.serde_json.specs.Data.{string}
use Rattle.jsp_reply.specs.Json.{list_data}
use Rattle.jsp_reply.specs.Tokens.{tokens_of}
use Rattle.jsp_reply.proofs.reply_text.write_names.Given as goal

-- what is written, and then the tokens of the items to come, are those of the whole list
abbrev pub invariant-loop-name : goal.invariant-loop-name
invariant-loop-name l = record {
  before : l.out.before ≡ l.fn.out.before;
  tokens : l.out.tokens ++ items_tokens (items_outline (items_of (map string (drop l.name-index l.names))))
      ≡ l.fn.out.tokens ++ tokens_of (list_data string l.names);
}
