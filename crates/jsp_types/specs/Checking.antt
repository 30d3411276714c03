-- The check of an entry against the list of a class's fields.
use Rattle.std.specs.Prelude.{◌≡◌, ℕ, Bool, false, not, ◌&&◌, nat_le, List, map, find, bytes_eq, None, IsTrue}
use Rattle.std.specs.List.{list_all}
use Rattle.std.specs.Option.{option_map_or}
use Rattle.jsp_types.specs.declared.value.Kind.{Kind}
use Rattle.jsp_types.specs.declared.value.Value.{Value}
use Rattle.jsp_types.specs.declared.class.Class.{Class}
use Rattle.jsp_types.specs.declared.entry.Entry.{Entry}
use Rattle.jsp_types.specs.declared.entry.Raw.{Raw}
use Rattle.jsp_types.specs.declared.known.Known.{Known}
use Rattle.jsp_types.specs.Classes.{are_distinct, fields_of}
use Rattle.jsp_types.specs.Matching.{has_kind, value_at, text_size, entry_of, entry_fault, is_small}

-- it is one of these fields, with a value of the field's kind
abbrev pub is_field_among : List (List ℕ × Kind) → List ℕ × Value → Bool
is_field_among fields given = option_map_or (λ g. has_kind given.1 g.1) (find (λ g. bytes_eq g.0 given.0) fields) false

-- these fields, each with the value given for it
abbrev pub filled : List (List ℕ × Kind) → List (List ℕ × Value) → List (List ℕ × Value)
filled fields given = map (λ f. (f.0, value_at given f.0)) fields

-- the entry of this class
abbrev pub filled_entry : Known → Raw → Entry
filled_entry known raw = record { class = known.class.name; fields = filled known.fields raw.fields }

-- a name stands twice, one isn't a field, a value is of another kind, or there is too much text
abbrev pub is_bad_for : List (List ℕ × Kind) → List (List ℕ × Value) → Bool
is_bad_for fields given = not (are_distinct given && list_all (is_field_among fields) given && nat_le (text_size (filled fields given)) 8192)

-- the entry isn't refused, and these are its class's fields
pub record IsAccepted (classes : List Class) (raw : Raw) (fields : List (List ℕ × Kind)) : Type 0 where
  pub fields_of_class : fields ≡ fields_of classes raw.class
  pub unrefused : entry_fault classes raw ≡ None
  pub within_limits : IsTrue (is_small (entry_of classes raw))
