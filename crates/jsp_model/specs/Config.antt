-- The names of spaces.
use Rattle.std.specs.Prelude.{ℕ, Bool, true, not, ◌&&◌, nat_le, List, [], ◌∷◌, length, bytes_eq}
use Rattle.std.specs.List.{list_any, list_all}
use Rattle.jsp_types.specs.Classes.{is_name}
use Rattle.jsp_model.specs.declared.limits.TheConstants.{MOST_SPACES}

-- no name stands twice
abbrev pub are_different : List (List ℕ) → Bool
are_different [] = true
are_different (n ∷ ns) = not (list_any (bytes_eq n) ns) && are_different ns

-- 1 to 64 names, each as names are, no two alike
abbrev pub are_space_names : List (List ℕ) → Bool
are_space_names names = nat_le 1 (length names) && nat_le (length names) MOST_SPACES && list_all is_name names && are_different names
