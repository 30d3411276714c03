-- The order of rows.
use Rattle.std.specs.Prelude.{◌<◌, List}
use Rattle.std.specs.List.{AllByRecursion}
use Rattle.jsp_model.specs.declared.state.Row.{Row}
use Rattle.jsp_table.specs.Finding.{AreNumbered as AreRising}

-- their numbers rise, from above 0 on
pub record AreNumbered (rows : List Row) : Type 0 where
  pub positive : AllByRecursion (λ row. 0 < row.number) rows
  pub rising : AreRising (λ (row : Row). row.number) rows
