-- What is printed: lines in which a terminal finds nothing to obey.
use Rattle.std.specs.Prelude.{ℕ, List, [], ◌∷◌, ◌++◌, ◌/◌, ◌%◌, codes, nat_lt, if◌then◌else◌}
use Rattle.std.specs.List.{flat_map}
use Rattle.std.specs.Char.{is_control, encode_utf8, digit_char}
use Rattle.std.specs.Str.{chars}
use Rattle.jsp_shell.specs.declared.print.Said.{Said}
use Rattle.jsp_shell.specs.declared.print.Said.TheVariants.{Words, Json}

-- a control character as JSON escapes it in a text: \u00, and two hexadecimal digits
abbrev pub escape_of : ℕ → List ℕ
escape_of c = codes "\\u00" ++ digit_char (c / 16) ∷ digit_char (c % 16) ∷ []

-- a character as it is, or the escape of a control character
abbrev pub told : ℕ → List ℕ
told c = if is_control c then escape_of c else encode_utf8 c

-- JSON has a character below U+0020 between its tokens alone, as white space: a blank says the same.
abbrev pub answered : ℕ → List ℕ
answered c = if nat_lt c 32 then 32 ∷ [] else told c

abbrev pub shown : Said → ℕ → List ℕ
shown Words = told
shown Json = answered

-- each character of the text as it is shown, and a newline
unfoldable pub line_of : Said → List ℕ → List ℕ
line_of said text = flat_map (shown said) (chars text) ++ 10 ∷ []
