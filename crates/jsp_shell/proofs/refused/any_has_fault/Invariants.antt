use Rattle.std.proofs.Common.{◌≡◌, drop}
use Rattle.serde_json.specs.View.{items_view}
use Rattle.jsp_shell.specs.Refused.{any_has_fault}
use Rattle.jsp_shell.proofs.refused.any_has_fault.Given as goal

-- what is left has a fault just where all have
abbrev pub invariant-items : goal.invariant-items
invariant-items l = any_has_fault (items_view (drop l.item-index l.items)) ≡ any_has_fault (items_view l.fn.items)
