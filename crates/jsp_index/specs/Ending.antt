-- The end of a transaction, space by space.
use Rattle.std.specs.Prelude.{◌≡◌, ℕ, Bool, true, List}
use Rattle.std.specs.List.{AllByRecursion}
use Rattle.jsp_model.specs.declared.state.Row.{Row}
use Rattle.jsp_sight.specs.Rows.{is_held}
use Rattle.jsp_sight.specs.declared.deciding.Decision.{Decision}
use Rattle.jsp_sight.specs.Deciding.{covers}

-- the decisions end the transaction so, in each space where it holds a row
pub record EndsAll (x : ℕ) (commits : Bool) (ds : List Decision) (rows : List Row) : Type 0 where
  pub alike : AllByRecursion (λ (d : Decision). (d.transaction ≡ x) × (d.commits ≡ commits)) ds
  pub covering : AllByRecursion (λ row. is_held x row ≡ true → covers ds row.space ≡ true) rows
