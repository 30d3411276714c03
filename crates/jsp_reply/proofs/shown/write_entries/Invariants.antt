use Rattle.std.proofs.Common.{◌≡◌, ◌++◌, drop, map}
use Rattle.json.specs.Tree.{items_tokens}
use Rattle.serde_json.specs.Written.{items_outline}
use Rattle.serde_json.specs.View.{items_of}
use Rattle.jsp_reply.specs.Json.{entry_data, list_data}
use Rattle.jsp_reply.specs.Tokens.{tokens_of}
use Rattle.jsp_reply.proofs.shown.write_entries.Given as goal

-- what is written, and then the tokens of the items to come, are those of the whole list
abbrev pub invariant-loop-entry : goal.invariant-loop-entry
invariant-loop-entry l = record {
  before : l.out.before ≡ l.fn.out.before;
  tokens : l.out.tokens ++ items_tokens (items_outline (items_of (map entry_data (drop l.entry-index l.entries))))
      ≡ l.fn.out.tokens ++ tokens_of (list_data entry_data l.entries);
}
