-- Text within the value of a label.
use Rattle.std.specs.Prelude.{ℕ, List, [], ◌∷◌, ◌==◌, codes, if◌then◌else◌}
use Rattle.std.specs.List.{flat_map}

-- A backslash, a quote and the end of a line are written behind a backslash.
abbrev pub label_escape_of : ℕ → List ℕ
label_escape_of b =
    if b == 92 then codes "\\\\" else (
    if b == 34 then codes "\\\"" else (
    if b == 10 then codes "\\n" else b ∷ []))

unfoldable pub in_label : List ℕ → List ℕ
in_label = flat_map label_escape_of
