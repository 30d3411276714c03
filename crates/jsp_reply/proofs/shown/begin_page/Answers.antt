use Rattle.std.proofs.Common.{[], ◌∷◌, codes}
use Rattle.json.specs.Token as token
use Rattle.jsp_reply.proofs.Chains.{Added-then, AddsTokens-then}
use Rattle.jsp_reply.proofs.shown.begin_page.Goals as goal

pub returns : goal.returns
returns c =
    let opened = c.in_ok-begin_object.ensures in
    let before = c.args.out.now in
    let begun = c.write_flag.new.out in
    let first = Added-then before c.begin_object.new.self begun (token.begin_object ∷ []) (token.key (codes "end") ∷ token.boolean c.args.end ∷ []) (opened.room.0, opened.ok) c.in_ok-write_flag.ensures in
    AddsTokens-then c.write_name.result before begun c.write_name.new.out (token.begin_object ∷ token.key (codes "end") ∷ token.boolean c.args.end ∷ []) (token.key (codes "entries") ∷ []) first c.write_name.ensures
