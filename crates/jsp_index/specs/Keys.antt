-- Under which keys a row is found.
use Rattle.std.specs.Prelude.{ℕ, if◌then◌else◌, List, ◌∷◌, map}
use Rattle.jsp_types.specs.declared.value.Value.{Value}
use Rattle.jsp_types.specs.Matching.{is_null}
use Rattle.jsp_model.specs.declared.state.Row.{Row}
use Rattle.jsp_keys.specs.Keys.{space_key, class_key, field_key}

-- what has no value in a field has its space's key once more
abbrev pub value_key : ℕ → ℕ → List ℕ × Value → ℕ
value_key seed space f = if is_null f.1 then space_key seed space else field_key seed space f.0 f.1

abbrev pub row_keys : ℕ → Row → List ℕ
row_keys seed row = space_key seed row.space ∷ class_key seed row.space row.entry.class ∷ map (value_key seed row.space) row.entry.fields
