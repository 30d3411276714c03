-- A text that has no control character is shown as it is.
use Rattle.std.proofs.Common.{◌≡◌, ℕ, List, [], ◌∷◌, ◌++◌, false, nat_lt, refl, ap, ◌∙◌, arith}
use Rattle.std.proofs.lemmas.Bool.{or_parts, cond-false}
use Rattle.std.proofs.lemmas.Bool.Decides.{nat_tests}
use Rattle.std.proofs.lemmas.Str.{encodes-chars}
use Rattle.std.specs.List.{list_any, flat_map}
use Rattle.std.specs.Char.{is_control, encode_utf8}
use Rattle.std.specs.Str.{chars, IsUtf8, encode_utf8_all}
use Rattle.jsp_shell.specs.declared.print.Said.{Said}
use Rattle.jsp_shell.specs.declared.print.Said.TheVariants.{Words, Json}
use Rattle.jsp_shell.specs.Printed.{escape_of, told, shown, line_of}

not_blank : (c : ℕ) → is_control c ≡ false → nat_lt c 32 ≡ false
not_blank c h = grind (arith, nat_tests)

told-plain : (c : ℕ) → is_control c ≡ false → told c ≡ encode_utf8 c
told-plain c h = cond-false (is_control c) (escape_of c) (encode_utf8 c) h

shown-plain : (said : Said) (c : ℕ) → is_control c ≡ false → shown said c ≡ encode_utf8 c
shown-plain Words c h = told-plain c h
shown-plain Json c h = cond-false (nat_lt c 32) (32 ∷ []) (told c) (not_blank c h) ∙ told-plain c h

all-plain : (said : Said) (cs : List ℕ) → list_any is_control cs ≡ false → flat_map (shown said) cs ≡ encode_utf8_all cs
all-plain said [] h = refl
all-plain said (c ∷ cs) h =
    let parts = or_parts (is_control c) (list_any is_control cs) h in
    rw (shown-plain said c parts.0, all-plain said cs parts.1) refl

-- so its line is itself and a newline
pub line-plain : (said : Said) (text : List ℕ) → IsUtf8 text → list_any is_control (chars text) ≡ false → line_of said text ≡ text ++ 10 ∷ []
unfolding line_of
line-plain said text utf8 h = ap (λ bs. bs ++ 10 ∷ []) (all-plain said (chars text) h ∙ encodes-chars text utf8)
