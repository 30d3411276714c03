-- What a script asks for.
use Rattle.std.specs.Prelude.{ℕ, ◌≡◌, ◌+◌, ◌<◌, ◌==◌, ◌^◌, ◌⊎◌, Bool, true, not, List, [], ◌∷◌, ◌++◌, ⊤, IsTrue, IsFalse, filter, length, codes, Ok}
use Rattle.std.specs.List.{AllZip, list_any, before_first, after_first, slice_split}
use Rattle.std.specs.Str.Parse.{IsNumeral, digits_value}
use Rattle.hex.specs.Hex.{decode_of}
use Rattle.jsp_frame.specs.Stream.{frame_of}
use Rattle.jsp_drive.specs.declared.acts.Act.{Act}
use Rattle.jsp_drive.specs.declared.acts.Act.TheVariants as act
use Rattle.jsp_script.specs.declared.script_line.Line.{Line}
use Rattle.jsp_script.specs.declared.script_line.Line.TheVariants as line_is
use Rattle.jsp_script.specs.declared.fault.ScriptFault.{ScriptFault}
use Rattle.jsp_script.specs.declared.fault.ScriptFault.TheVariants as fault

-- ---- one line

-- an empty line, or one that begins with '#'
abbrev pub is_passed_over : List ℕ → Bool
is_passed_over [] = true
is_passed_over (b ∷ rest) = b == 35

abbrev pub is_blank : ℕ → Bool
is_blank b = b == 32

-- what stands before the first blank, and what stands behind it
abbrev pub first_part : List ℕ → List ℕ
first_part text = before_first is_blank text

abbrev pub other_parts : List ℕ → List ℕ
other_parts text = after_first is_blank text

-- decimal digits alone, of this number below 2^64
abbrev pub Names : List ℕ → ℕ → Type 0
Names text n = IsNumeral 10 text × (digits_value 10 text < 2 ^ 64) × (n ≡ digits_value 10 text)

-- what follows `send`: a session, and a payload that is all that is left, sent as one frame
pub record Sends (rest : List ℕ) (s : ℕ) (bytes : List ℕ) : Type 0 where
  pub session : Names (first_part rest) s
  pub has_payload : IsTrue (list_any is_blank rest)
  pub bytes_are : bytes ≡ frame_of (other_parts rest)

-- one or more pairs of hex digits, of either case, and their bytes
abbrev pub IsHexOf : List ℕ → List ℕ → Type 0
IsHexOf text bytes = (decode_of text ≡ Ok bytes) × (0 < length bytes)

-- what follows `hex`: a session, and the bytes that it sends
pub record SendsRaw (rest : List ℕ) (s : ℕ) (bytes : List ℕ) : Type 0 where
  pub session : Names (first_part rest) s
  pub bytes_are : IsHexOf (other_parts rest) bytes

-- `open c`, `shut c`, `send c JSON`, `hex c HEX`, `clock t`, or `settle`
abbrev pub IsActOf : List ℕ → Act → Type 0
IsActOf line (act.Open s) = (first_part line ≡ codes "open") × Names (other_parts line) s
IsActOf line (act.Shut s) = (first_part line ≡ codes "shut") × Names (other_parts line) s
IsActOf line (act.Piece s bytes) =
    ((first_part line ≡ codes "send") × Sends (other_parts line) s bytes.items)
    ⊎ ((first_part line ≡ codes "hex") × SendsRaw (other_parts line) s bytes.items)
IsActOf line (act.Clock t) = (first_part line ≡ codes "clock") × Names (other_parts line) t
IsActOf line act.Settle = line ≡ codes "settle"

-- it isn't passed over, and asks for no act
abbrev pub IsNotUnderstood : List ℕ → Type 0
IsNotUnderstood line = IsFalse (is_passed_over line) × ((a : Act) → IsActOf line a → ⊥)

-- what a line is read as
abbrev pub IsReadAs : List ℕ → Line → Type 0
IsReadAs line line_is.PassedOver = IsTrue (is_passed_over line)
IsReadAs line (line_is.Act a) = IsFalse (is_passed_over line) × IsActOf line a
IsReadAs line line_is.NotUnderstood = IsNotUnderstood line

-- ---- all lines

abbrev pub lines_of : List ℕ → List (List ℕ)
lines_of text = slice_split (λ b. b == 10) text

-- the lines that aren't passed over
abbrev pub asking : List (List ℕ) → List (List ℕ)
asking lines = filter (λ line. not (is_passed_over line)) lines

-- these acts are asked for, one by each line that isn't passed over, in order
abbrev pub AreActsOf : List (List ℕ) → List Act → Type 0
AreActsOf lines acts = AllZip IsActOf (asking lines) acts

-- the first line that isn't understood has this number, counted from 1
pub record FirstNotUnderstood (lines : List (List ℕ)) (number : ℕ) : Type 0 where
  pub before : List (List ℕ)
  pub line : List ℕ
  pub after : List (List ℕ)
  pub acts : List Act
  pub lines_are : lines ≡ before ++ line ∷ after
  pub number_is : number ≡ length before + 1
  pub before_is : AreActsOf before acts
  pub line_is : IsNotUnderstood line

-- why the lines aren't run
abbrev pub FailsBy : List (List ℕ) → ScriptFault → Type 0
FailsBy lines (fault.NotUnderstood number) = FirstNotUnderstood lines number
FailsBy lines fault.NoMemory = ⊤
FailsBy lines _ = ⊥
