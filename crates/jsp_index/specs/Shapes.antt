-- Rows that are found by several of their values together.
use Rattle.std.specs.Prelude.{◌≡◌, ℕ, ◌==◌, Bool, true, ◌&&◌, ◌||◌, nat_lt, if◌then◌else◌, List, [], ◌∷◌, Option, Some, None, option_map, option_and_then}
use Rattle.std.specs.List.{AllByRecursion}
use Rattle.jsp_types.specs.declared.value.Value.{Value}
use Rattle.jsp_types.specs.Matching.{is_null, value_at}
use Rattle.jsp_model.specs.declared.state.Row.{Row}
use Rattle.jsp_table.specs.Hints.{names}
use Rattle.jsp_keys.specs.Keys.{number_key, space_key, field_key}
use Rattle.jsp_index.specs.declared.shape.Shape.{Shape}

-- the value, if it isn't null
abbrev pub some_value : Value → Option Value
some_value v = if is_null v then None else Some v

-- the key of the values in fields of these names, if none of them is null
abbrev pub key_of_values : ℕ → ℕ → List (List ℕ) → List (List ℕ × Value) → Option ℕ
key_of_values seed space [] fields = Some (space_key seed space)
key_of_values seed space (n ∷ ns) fields =
    option_and_then (λ v. option_map (λ k. number_key k 10 (field_key seed space n v)) (key_of_values seed space ns fields)) (some_value (value_at fields n))

-- the shape has learned where the row is
abbrev pub is_learned : Shape → Row → Bool
is_learned shape row = row.space == shape.space && (shape.is_whole || nat_lt row.number shape.below)

-- a row that it has learned is named under the key of its values, if it has one
abbrev pub IsNamedBy : ℕ → Row → Shape → Type 0
IsNamedBy seed row shape = is_learned shape row ≡ true → (k : ℕ) → key_of_values seed shape.space shape.names row.entry.fields ≡ Some k → names shape.hints k row.number ≡ true

-- each row is, by the shape
abbrev pub IsShaped : ℕ → Shape → List Row → Type 0
IsShaped seed shape rows = AllByRecursion (λ row. IsNamedBy seed row shape) rows

-- the row is, by each shape
abbrev pub IsNamedByAll : ℕ → List Shape → Row → Type 0
IsNamedByAll seed shapes row = AllByRecursion (IsNamedBy seed row) shapes

-- each row is, by each shape
abbrev pub AreShaped : ℕ → List Shape → List Row → Type 0
AreShaped seed shapes rows = AllByRecursion (IsNamedByAll seed shapes) rows
