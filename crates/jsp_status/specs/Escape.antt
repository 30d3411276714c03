-- Text within HTML.
use Rattle.std.specs.Prelude.{ℕ, List, [], ◌∷◌, ◌==◌, codes, if◌then◌else◌}
use Rattle.std.specs.List.{flat_map}

-- The bytes that begin or end markup, or an attribute's value, are written by their names.
abbrev pub escape_of : ℕ → List ℕ
escape_of b =
    if b == 60 then codes "&lt;" else (
    if b == 62 then codes "&gt;" else (
    if b == 38 then codes "&amp;" else (
    if b == 34 then codes "&quot;" else (
    if b == 39 then codes "&#39;" else b ∷ []))))

unfoldable pub escaped : List ℕ → List ℕ
escaped = flat_map escape_of
