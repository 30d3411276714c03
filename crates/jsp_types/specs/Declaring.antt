-- Why a class is refused whose form is right and whose name is new.
use Rattle.std.specs.Prelude.{Bool, false, not, ◌+◌, ◌&&◌, ◌||◌, nat_lt, nat_le, List, [], ◌∷◌, length, Option}
use Rattle.std.specs.List.{list_any}
use Rattle.std.specs.Option.{option_map_or}
use Rattle.jsp_types.specs.declared.class.Class.{Class}
use Rattle.jsp_types.specs.declared.class.ClassFault.{ClassFault}
use Rattle.jsp_types.specs.declared.class.ClassFault.TheVariants.{BadClass, UnknownParent, TooMany}
use Rattle.jsp_types.specs.Classes.{is_declared, has_name, parent_eq, fields_eq, inherited, depth_above}
use Rattle.jsp_types.specs.Tests.{first_that}

-- they have one parent and the same fields
abbrev pub are_alike : Class → Class → Bool
are_alike d c = parent_eq d.parent c.parent && fields_eq d.fields c.fields

-- it has a parent that isn't declared
abbrev pub has_unknown_parent : List Class → Class → Bool
has_unknown_parent classes c = option_map_or (λ p. not (is_declared classes p)) c.parent false

-- an inherited field stands again, or the depth or the fields are past the limit
abbrev pub is_past_limits : List Class → Class → Bool
is_past_limits classes c =
    list_any (λ f. has_name c.fields f.0) (inherited classes c)
    || nat_lt 15 (depth_above classes c)
    || nat_lt 32 (length (inherited classes c) + length c.fields)

-- the first that applies
abbrev pub new_fault : List Class → Class → Option ClassFault
new_fault classes c =
    first_that (
    (has_unknown_parent classes c, UnknownParent)
    ∷ (is_past_limits classes c, BadClass)
    ∷ (nat_le 1024 (length classes), TooMany)
    ∷ [])
