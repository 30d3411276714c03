use Rattle.std.proofs.Common.{[], ◌∷◌, codes}
use Rattle.json.specs.Token as token
use Rattle.jsp_reply.proofs.Chains.{Added-then, AddsTokens-then}
use Rattle.jsp_reply.proofs.shown.begin_entry.Goals as goal

pub returns : goal.returns
returns c =
    let opened = c.in_ok-begin_object.ensures in
    let before = c.args.out.now in
    let begun = c.write_text.new.out in
    let first = Added-then before c.begin_object.new.self begun (token.begin_object ∷ []) (token.key (codes "class") ∷ token.string c.args.class.now ∷ []) (opened.room.0, opened.ok) c.in_ok-write_text.ensures in
    AddsTokens-then c.write_name.result before begun c.write_name.new.out (token.begin_object ∷ token.key (codes "class") ∷ token.string c.args.class.now ∷ []) (token.key (codes "fields") ∷ []) first c.write_name.ensures
