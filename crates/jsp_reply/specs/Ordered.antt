-- Fields in the order in which JSON has them. Only private clauses cite it.
use Rattle.std.specs.Prelude.{ℕ, List, [], ◌∷◌}
use Rattle.serde_json.specs.Data.{Members, no_members, member}
use Rattle.jsp_types.specs.declared.value.Value.{Value}
use Rattle.jsp_reply.specs.Text.{value_data}

-- an object's members, in this order
abbrev pub members_of : List (List ℕ × Value) → Members
members_of [] = no_members
members_of (f ∷ fs) = member f.0 (value_data f.1) (members_of fs)
