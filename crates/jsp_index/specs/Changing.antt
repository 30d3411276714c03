-- What becomes of rows.
use Rattle.std.specs.Prelude.{◌≡◌, Bool, Option, Some, None, if◌then◌else◌}
use Rattle.jsp_model.specs.declared.state.Row.{Row}

-- the row is found as the other is
pub record HasSameKeys (row new : Row) : Type 0 where
  pub number : new.number ≡ row.number
  pub space : new.space ≡ row.space
  pub entry : new.entry ≡ row.entry
  pub end : new.end ≡ row.end

-- what becomes of a row that goes or changes
abbrev pub revised_by : (Row → Bool) → (Row → Row) → Row → Option Row
revised_by gone changed row = if gone row then None else Some (changed row)

-- what is revised once stays as it is then
abbrev pub IsOnce : (Row → Option Row) → Type 0
IsOnce revised = (row new : Row) → revised row ≡ Some new → revised new ≡ Some new
