use Rattle.std.proofs.Common.{◌≡◌, false, ap, sym, ◌∙◌}
use Rattle.jsp_sight.specs.Rows.{held}
use Rattle.jsp_decided.specs.Recording.{covers}
use Rattle.jsp_decided.proofs.Spaces.{held_within, any_seen}
use Rattle.jsp_decided.proofs.decided.DecidedRows.has_conflict.Goals as goal

pub returns-else-covers : goal.returns-else-covers
returns-else-covers c =
    let ds = c.args.self.now.recorded.items in
    let stored = c.args.self.now.stored in
    let none : covers ds c.args.blocked.now.space ≡ false = sym (c.covers.ensures ∙ ap (λ ds. covers ds c.args.blocked.now.space) c.deref.ensures.value) ∙ c.if-covers.false in
    c.has_conflict.ensures ∙ any_seen (held c.args.classes.now c.args.blocked.now) c.args.blocked.now.space (held_within c.args.classes.now c.args.blocked.now) ds stored none
