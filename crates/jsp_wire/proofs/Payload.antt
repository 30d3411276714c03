-- A payload as JSON.
use Rattle.std.proofs.Common.{◌≡◌, ℕ, List, None, refl, inl, inr}
use Rattle.std.specs.Str.{is_utf8, IsUtf8}
use Rattle.std.proofs.lemmas.Bool.{cases_Bool}
use Rattle.std.proofs.lemmas.Str.{is_utf8-from_IsUtf8, IsUtf8-from_is_utf8}
use Rattle.serde_json.specs.Read.{read}
use Rattle.jsp_wire.specs.Reading.{json_of}

pub json_of-text : (s : List ℕ) → IsUtf8 s → json_of s ≡ read s
json_of-text s text = rw (is_utf8-from_IsUtf8 s text) refl

pub json_of-no_text : (s : List ℕ) → (IsUtf8 s → ⊥) → json_of s ≡ None
json_of-no_text s none =
    elim (cases_Bool (is_utf8 s)) [
      | inl is ↦ absurd (none (IsUtf8-from_is_utf8 s is))
      | inr is ↦ rw is refl
    ]
