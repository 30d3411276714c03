-- What is named under as many keys of an entry's values as it asks for, and which lists may be passed over.
use Rattle.std.specs.Prelude.{ℕ, Bool, false, Option, Some, None, ◌&&◌, ◌||◌, nat_le, nat_lt, if◌then◌else◌, List, ◌∷◌, [], length, map, filter}
use Rattle.std.specs.List.{list_any}
use Rattle.std.specs.Option.{option_map_or}
use Rattle.jsp_types.specs.declared.value.Value.{Value}
use Rattle.jsp_types.specs.declared.class.Class.{Class}
use Rattle.jsp_types.specs.declared.entry.Entry.{Entry}
use Rattle.jsp_table.specs.Hints.{list_of, names}
use Rattle.jsp_keys.specs.Keys.{count_key}
use Rattle.jsp_keys.specs.Templates.{entry_keys, several_keys}
use Rattle.jsp_table.specs.declared.hints.Hints.{Hints}

module _ (hints : Hints) where
  -- how long the key's list is
  abbrev pub length_under : ℕ → ℕ
  length_under key = option_map_or length (list_of hints key) 0

  -- it is longer than the limit, if there is one
  abbrev pub is_longer : Option ℕ → ℕ → Bool
  is_longer None key = false
  is_longer (Some limit) key = nat_lt limit (length_under key)

  -- the key, and none where its list is longer than the limit
  abbrev pub looked_under : Option ℕ → ℕ → ℕ
  looked_under limit key = if is_longer limit key then 0 else key

  -- the keys under which is looked for what asks for so many values
  abbrev pub keys_looked_under : Option ℕ → ℕ → ℕ → ℕ → List (List ℕ × Value) → List ℕ
  keys_looked_under limit seed count space fields = map (looked_under limit) (several_keys seed count space fields)

  -- the number is named as one that asks for so many values, under so many of these
  abbrev pub are_named : ℕ → ℕ → List (List ℕ × Value) → ℕ → ℕ → Bool
  are_named seed space fields n count = names hints (count_key seed count space) n && nat_le count (length (filter (λ k. names hints k n) (several_keys seed count space fields)))

  -- the number is named under a key that the entry seeks, or under enough of them
  abbrev pub is_named_for : ℕ → List Class → ℕ → Entry → ℕ → Bool
  is_named_for seed classes space e n =
      list_any (λ k. names hints k n) (entry_keys seed classes space e) || list_any (are_named seed space e.fields n) (2 ∷ 3 ∷ 4 ∷ [])
