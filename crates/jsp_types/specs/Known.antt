-- What is kept beside a declared class.
use Rattle.std.specs.Prelude.{◌≡◌, ℕ, true, List, map, Some, IsTrue}
use Rattle.std.specs.List.{All}
use Rattle.std.specs.Option.{option_map_or}
use Rattle.jsp_types.specs.declared.class.Class.{Class}
use Rattle.jsp_types.specs.declared.known.Known.{Known}
use Rattle.jsp_types.specs.Classes.{class_named, is_declared, line_of, fields_of, is_within_limits}

-- its class and the parent are declared, its line and its fields are the class's, and it is within the limits
pub record IsKept (classes : List Class) (known : Known) : Type 0 where
  pub is_there : IsTrue (is_declared classes known.class.name)
  pub line : known.line ≡ line_of classes known.class.name
  pub fields : known.fields ≡ fields_of classes known.class.name
  pub parent_declared : IsTrue (option_map_or (is_declared classes) known.class.parent true)
  pub within_limits : IsTrue (is_within_limits known.class.name known.fields)

abbrev pub classes_of : List Known → List Class
classes_of known = map (λ k. k.class) known

abbrev pub AreKept : List Known → Type 0
AreKept known = All (IsKept (classes_of known)) known

-- it is what is kept of the class of that name
pub record IsKeptOf (classes : List Class) (name : List ℕ) (known : Known) : Type 0 where
  pub named : class_named classes name ≡ Some known.class
  pub line : known.line ≡ line_of classes name
  pub fields : known.fields ≡ fields_of classes name
  pub within_limits : IsTrue (is_within_limits name known.fields)
