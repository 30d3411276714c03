-- The rows of a table.
use Rattle.std.specs.Prelude.{ℕ, List, [], ◌++◌, Option, Some, None, codes, decimal, map}
use Rattle.std.specs.List.{flat_map}
use Rattle.jsp_status.specs.declared.table.Cell.{Cell}
use Rattle.jsp_status.specs.declared.table.Cell.TheVariants.{Text, Number, Known, Tenths}
use Rattle.jsp_status.specs.Decimal.{tenths}
use Rattle.jsp_status.specs.Escape.{escaped}

abbrev pub cell_text : List ℕ → List ℕ
cell_text content = codes "<td>" ++ content ++ codes "</td>"

unfoldable pub row : List (List ℕ) → List ℕ
row contents = codes "<tr>" ++ flat_map cell_text contents ++ codes "</tr>\n"

-- a number, where it is known
abbrev pub known_text : Option ℕ → List ℕ
known_text (Some number) = decimal number
known_text None = []

-- whatever a text holds, it is shown as text
abbrev pub content_of : Cell → List ℕ
content_of (Text text) = escaped text.now
content_of (Number number) = decimal number
content_of (Known number) = known_text number
content_of (Tenths number) = tenths number

abbrev pub row_of : List Cell → List ℕ
row_of cells = row (map content_of cells)
