-- Under which keys a template is found, and by which keys an entry seeks those that may match it.
use Rattle.std.specs.Prelude.{ℕ, Bool, ◌&&◌, ◌||◌, nat_le, nat_lt, ◌+◌, if◌then◌else◌, List, [], ◌∷◌, ◌++◌, map, filter, flat_map, take, length, bytes_eq}
use Rattle.std.specs.List.{list_any}
use Rattle.jsp_types.specs.declared.value.Value.{Value}
use Rattle.jsp_types.specs.declared.class.Class.{Class}
use Rattle.jsp_types.specs.declared.entry.Entry.{Entry}
use Rattle.jsp_types.specs.declared.entry.Template.{Template}
use Rattle.jsp_types.specs.declared.entry.Template.TheVariants.{Any, Like}
use Rattle.jsp_types.specs.Classes.{line_of}
use Rattle.jsp_types.specs.Matching.{is_null}
use Rattle.jsp_table.specs.Numbers.{contains}
use Rattle.jsp_keys.specs.Keys.{any_key, class_key, field_key, several_key, count_key}

-- ---- a template

-- the values that it asks for, each name once, of those behind some that were seen
abbrev pub values_behind : List (List ℕ × Value) → List (List ℕ × Value) → List (List ℕ × Value)
values_behind seen [] = []
values_behind seen (f ∷ fields) =
    if is_null f.1 || list_any (λ g. bytes_eq g.0 f.0) seen then values_behind (seen ++ f ∷ []) fields else f ∷ values_behind (seen ++ f ∷ []) fields

-- the first four of them
abbrev pub values_asked : List (List ℕ × Value) → List (List ℕ × Value)
values_asked fields = take 4 (values_behind [] fields)

-- its class where it asks for no value, the value where it asks for one, and else each of them, by how many they are
abbrev pub like_keys : ℕ → ℕ → List ℕ → List (List ℕ × Value) → List ℕ
like_keys seed space class [] = class_key seed space class ∷ []
like_keys seed space class (f ∷ []) = field_key seed space f.0 f.1 ∷ []
like_keys seed space class (f ∷ g ∷ values) =
    count_key seed (length (f ∷ g ∷ values)) space ∷ map (λ v. several_key seed (length (f ∷ g ∷ values)) space v.0 v.1) (f ∷ g ∷ values)

abbrev pub template_values : Template → List (List ℕ × Value)
template_values Any = []
template_values (Like t) = values_asked t.fields

-- how many keys stand for so many values
abbrev pub key_count : ℕ → ℕ
key_count values = if nat_lt values 2 then 1 else values + 1

abbrev pub template_keys : ℕ → ℕ → Template → List ℕ
template_keys seed space Any = any_key seed space ∷ []
template_keys seed space (Like t) = like_keys seed space t.class (values_asked t.fields)

-- of some templates at a space
abbrev pub keys_of_all : ℕ → ℕ → List Template → List ℕ
keys_of_all seed space ts = flat_map (template_keys seed space) ts

-- ---- an entry

-- of a class and of those above it
abbrev pub line_keys : ℕ → List Class → ℕ → List ℕ → List ℕ
line_keys seed classes space class = map (class_key seed space) (line_of classes class)

abbrev pub value_keys : ℕ → ℕ → List (List ℕ × Value) → List ℕ
value_keys seed space fields = map (λ f. field_key seed space f.0 f.1) fields

-- of templates that ask for one value at most
abbrev pub entry_keys : ℕ → List Class → ℕ → Entry → List ℕ
entry_keys seed classes space e = any_key seed space ∷ (value_keys seed space e.fields ++ line_keys seed classes space e.class)

-- of templates that ask for so many values
abbrev pub several_keys : ℕ → ℕ → ℕ → List (List ℕ × Value) → List ℕ
several_keys seed count space fields = map (λ f. several_key seed count space f.0 f.1) fields

-- these are keys of a template that asks for so many values, all of which the fields have
abbrev pub seeks_several : ℕ → ℕ → List (List ℕ × Value) → List ℕ → ℕ → Bool
seeks_several seed space fields keys count =
    contains keys (count_key seed count space) && nat_le count (length (filter (contains keys) (several_keys seed count space fields)))

-- the entry seeks what has these keys
abbrev pub seeks : ℕ → List Class → ℕ → Entry → List ℕ → Bool
seeks seed classes space e keys =
    list_any (contains keys) (entry_keys seed classes space e) || list_any (seeks_several seed space e.fields keys) (2 ∷ 3 ∷ 4 ∷ [])
