-- Why a script isn't run and printed whole, and what is told of it.
use Rattle.std.specs.Prelude.{ℕ, ◌≡◌, ◌<◌, ◌≤◌, ◌^◌, Bool, true, false, List, [], ◌∷◌, ◌++◌, ⊤, IfSome, codes, decimal, length}
use Rattle.std.specs.Io.KnownBytes.{Appends, Keeps}
use Rattle.std.specs.declared.option.Option.{Option}
use Rattle.jsp_script.specs.declared.fault.ScriptFault.{ScriptFault}
use Rattle.jsp_script.specs.declared.fault.ScriptFault.TheVariants as fault
use Rattle.jsp_script.specs.Script.{lines_of, FirstNotUnderstood}
use Rattle.jsp_script.specs.Print.{Prints}

-- ---- what is told

abbrev pub words_of : ScriptFault → List ℕ
words_of fault.CannotRead = codes "cannot read"
words_of fault.TooLong = codes "input too long"
words_of (fault.NotUnderstood number) = codes "line " ++ decimal number ++ codes ": not understood"
words_of fault.NoMemory = codes "out of memory"
words_of fault.DoesNotReplay = codes "the history doesn't replay"
words_of fault.CannotWrite = codes "cannot write"

-- the line that tells of a fault
abbrev pub line_telling : ScriptFault → List ℕ
line_telling why = codes "jsp: " ++ words_of why ++ 10 ∷ []

-- known bytes grow by a beginning of the text
pub record AppendsSome (old new : Option (List ℕ)) (text : List ℕ) : Type 0 where
  pub written : List ℕ
  pub rest : List ℕ
  pub text_is : text ≡ written ++ rest
  pub appends : Appends old new written

-- known bytes grow by a beginning of the text that isn't all of it
pub record AppendsPart (old new : Option (List ℕ)) (text : List ℕ) : Type 0 where
  pub written : List ℕ
  pub rest : List ℕ
  pub text_is : text ≡ written ++ rest
  pub appends : Appends old new written
  pub missing : 0 < length rest

-- ---- why

-- a script of this text was run, and a beginning of its lines was written
pub record WroteSome (spaces : List (List ℕ)) (text : List ℕ) (old new : Option (List ℕ)) : Type 0 where
  pub printed : List ℕ
  pub within : length text ≤ 2 ^ 24
  pub prints : Prints spaces text printed
  pub writes : AppendsSome old new printed

-- it isn't too long, and the first of its lines that isn't understood has this number
pub record IsRefusedAt (text : List ℕ) (number : ℕ) : Type 0 where
  pub within : length text ≤ 2 ^ 24
  pub first : FirstNotUnderstood (lines_of text) number

-- why a text isn't had from a reader
abbrev pub ReadsNone : Option (List ℕ) → ScriptFault → Type 0
ReadsNone known fault.CannotRead = ⊤
ReadsNone known fault.TooLong = IfSome known (λ text. 2 ^ 24 < length text)
ReadsNone known (fault.NotUnderstood number) = ⊥
ReadsNone known fault.NoMemory = ⊤
ReadsNone known fault.DoesNotReplay = ⊥
ReadsNone known fault.CannotWrite = ⊥

-- The fault applies to the text, where that is known. Nothing of it was written, but where the writer failed. A history
-- that doesn't replay never applies.
abbrev pub StopsBy : List (List ℕ) → Option (List ℕ) → Option (List ℕ) → Option (List ℕ) → ScriptFault → Type 0
StopsBy spaces known old new fault.CannotRead = Keeps old new
StopsBy spaces known old new fault.TooLong = IfSome known (λ text. 2 ^ 24 < length text) × Keeps old new
StopsBy spaces known old new (fault.NotUnderstood number) = IfSome known (λ text. IsRefusedAt text number) × Keeps old new
StopsBy spaces known old new fault.NoMemory = Keeps old new
StopsBy spaces known old new fault.DoesNotReplay = ⊥
StopsBy spaces known old new fault.CannotWrite = IfSome known (λ text. WroteSome spaces text old new)

-- A fault applies, and one line tells of it: the whole of it where that is claimed, and else not the whole.
pub record Fails (spaces : List (List ℕ)) (known old new told_old told_new : Option (List ℕ)) (is_told : Bool) : Type 0 where
  pub fault : ScriptFault
  pub stops : StopsBy spaces known old new fault
  pub line : AppendsSome told_old told_new (line_telling fault)
  pub whole : is_told ≡ true → Appends told_old told_new (line_telling fault)
  pub part : is_told ≡ false → AppendsPart told_old told_new (line_telling fault)
