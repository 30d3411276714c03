use Rattle.std.proofs.Common.{◌≡◌, ◌-◌, ◌^◌}
use Rattle.std.specs.List.{filter_map}
use Rattle.jsp_model.specs.declared.state.Row.{Row}
use Rattle.jsp_index.specs.Changing.{revised_by}
use Rattle.jsp_index.proofs.Revisions.{revised_to}
use Rattle.jsp_index.proofs.revising.revise_all.Given as goal

abbrev pub invariant-numbers : goal.invariant-numbers
invariant-numbers g l = l.rows ≡ filter_map (revised_to (λ (r : Row). r.number) (revised_by (g.R.Revision.is_gone l.revision) (g.R.Change.changed l.revision)) l.numbers l.last) l.fn.rows

abbrev pub decreases-numbers : goal.decreases-numbers
decreases-numbers g l = 2 ^ 64 - l.last
