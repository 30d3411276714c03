use Rattle.std.proofs.Common.{[], ◌∷◌, codes, decimal}
use Rattle.json.specs.Token as token
use Rattle.jsp_reply.proofs.Chains.{Added-then, AddsTokens-then}
use Rattle.jsp_reply.proofs.reply_text.begin_event.Goals as goal

pub returns : goal.returns
returns c =
    let opened = c.in_ok-begin_object.ensures in
    let before = c.args.out.now in
    let begun = c.write_text.new.out in
    let first = Added-then before c.begin_object.new.self begun (token.begin_object ∷ []) (token.key (codes "handback") ∷ token.string c.args.handback.now ∷ []) (opened.room.0, opened.ok) c.in_ok-write_text.ensures in
    AddsTokens-then c.write_count.result before begun c.write_count.new.out (token.begin_object ∷ token.key (codes "handback") ∷ token.string c.args.handback.now ∷ []) (token.key (codes "lease") ∷ token.number (decimal c.args.lease) ∷ []) first c.write_count.ensures
