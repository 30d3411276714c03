-- The class is known, since the entry isn't refused.
use Rattle.std.proofs.Common.{◌∙◌}
use Rattle.std.proofs.lemmas.Result.{IfOk-weaker}
use Rattle.jsp_types.proofs.Accepting.{known_unless_refused, filled_is}
use Rattle.jsp_types.proofs.checking.fill_entry.Goals as goal

pub unreachable-requires : goal.unreachable-requires
unreachable-requires c = known_unless_refused c.args.classes.now c.args.raw.now c.as_str.result.now c.requires c.as_str.ensures c.in-None.ensures

pub returns : goal.returns
returns c =
    IfOk-weaker c.entry_with.result _ _ (λ e h. h ∙ filled_is c.args.classes.now c.args.raw.now c.as_str.result.now c.in-Some.known.now c.in-Some.ensures c.as_str.ensures) c.entry_with.ensures
