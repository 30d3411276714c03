use Rattle.std.proofs.Common.{List, option_copied}
use Rattle.std.specs.Prelude.{IfSome}
use Rattle.jsp_types.specs.declared.class.Class.{Class}
use Rattle.jsp_types.specs.declared.entry.Template.TheVariants.{Like}
use Rattle.jsp_model.specs.declared.state.Row.{Row}
use Rattle.jsp_table.specs.Finding.{AreNamed}
use Rattle.jsp_index.specs.Finding.{number, is_like}
use Rattle.jsp_index.specs.Shapes.{AreShaped}
use Rattle.jsp_index.proofs.shapes.shortest.Given as goal

abbrev pub invariant-shapes : goal.invariant-shapes
invariant-shapes l = IfSome (option_copied l.shortest) (λ numbers. (classes : List Class) (rows : List Row) → AreShaped l.seed l.shapes rows → AreNamed number (is_like classes l.space (Like l.like)) numbers rows)
