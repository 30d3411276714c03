use Rattle.std.proofs.Common.{◌++◌, ap, ap₂, ◌∙◌}
use Rattle.json.specs.Print.{print}
use Rattle.serde_json.proofs.Texts.{print-outline}
use Rattle.jsp_reply.specs.Json.{reply_data}
use Rattle.jsp_reply.specs.Tokens.{tokens_of}
use Rattle.jsp_reply.proofs.Texts.{reply_same}
use Rattle.jsp_reply.proofs.reply_text.reply_text.Goals as goal

pub returns : goal.returns
returns c =
    let value = reply_data c.args.reply.now in
    let made = c.in_ok-write_reply.ensures in
    let nothing_before = made.0 ∙ c.new-out.ensures.before ∙ c.in_ok-with_capacity.ensures.items in
    let tokens = made.1 ∙ ap (λ ts. ts ++ tokens_of value) c.new-out.ensures.tokens in
    c.into_inner.ensures.items ∙ ap₂ (λ before ts. before ++ print ts) nothing_before tokens ∙ print-outline value ∙ reply_same c.args.reply.now
