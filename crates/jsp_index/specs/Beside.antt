-- What is kept beside the rows.
use Rattle.std.specs.Prelude.{ℕ, List}
use Rattle.std.specs.HashMap.{HashMap}
use Rattle.jsp_model.specs.declared.state.Row.{Row}
use Rattle.jsp_index.specs.Seen.{AreSeen}
use Rattle.jsp_index.specs.Counted.{AreCounted}

pub record IsBeside {S : Type 0} (seen : HashMap ℕ (List (List ℕ)) S) (counts : HashMap ℕ ℕ S) (rows : List Row) : Type 0 where
  pub classes : AreSeen seen rows
  pub spaces : AreCounted counts rows
