use Rattle.std.proofs.Common.{◌≡◌, ◌++◌, drop}
use Rattle.json.specs.Tree.{members_tokens}
use Rattle.serde_json.specs.Data.{object}
use Rattle.serde_json.specs.Written.{members_outline}
use Rattle.jsp_reply.specs.Ordered.{members_of}
use Rattle.jsp_reply.specs.Tokens.{tokens_of}
use Rattle.jsp_reply.proofs.shown.write_list.Given as goal

-- what is written, and then the tokens of the fields to come, are those of the whole object
abbrev pub invariant-loop-name : goal.invariant-loop-name
invariant-loop-name l = record {
  before : l.out.before ≡ l.fn.out.before;
  tokens : l.out.tokens ++ members_tokens (members_outline (members_of (drop l.name-index l.fields)))
      ≡ l.fn.out.tokens ++ tokens_of (object (members_of l.fields));
}
