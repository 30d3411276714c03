-- The parts of a line, and its numbers.
use Rattle.std.proofs.Common.{◌≡◌, ℕ, ◌+◌, ◌-◌, ◌<◌, ◌≤◌, List, [], ◌∷◌, Bool, true, false, cond, nat_lt, refl, ap, sym, ◌∙◌, length, take, drop, get_or, arith, Some, None, inl, inr, Result, Ok, Err, subst, length-drop}
use Rattle.std.specs.Prelude.{position, codes}
use Rattle.std.specs.List.{list_any, position_or_len}
use Rattle.std.specs.Str.{IsUtf8}
use Rattle.std.specs.Str.Parse.{IsNumeral}
use Rattle.std.proofs.lemmas.List.{nil_from_length, take_all, get_or_past}
use Rattle.std.proofs.lemmas.Str.{IsUtf8-from_ascii}
use Rattle.std.proofs.lemmas.Str.Parse.{digit_at}
use Rattle.std.proofs.lemmas.Bool.{ltb-true}
use Rattle.std.proofs.lemmas.Bool.Decides.{nat_tests}
use Rattle.hex.proofs.OnLiterals.{hex_on_literals}
use Rattle.hex.specs.Hex.{decode_of}
use Rattle.hex.specs.declared.error.FromHexError.{FromHexError}
use Rattle.jsp_drive.specs.declared.acts.Act.{Act}
use Rattle.jsp_drive.specs.declared.acts.Act.TheVariants as act
use Rattle.jsp_script.specs.Script.{is_blank, first_part, other_parts, IsActOf, Names, SendsRaw}

-- ---- the first blank

any_from_place : {X : Type 0} (p : X → Bool) (xs : List X) → nat_lt (position_or_len p xs) (length xs) ≡ list_any p xs
any_from_place p [] = refl
any_from_place p (x ∷ xs) = grind (arith, nat_tests, any_from_place p xs)

place_is : {A : Type 0} (p : A → Bool) (xs : List A) (place : ℕ) (b : Bool) → nat_lt (position_or_len p xs) (length xs) ≡ b → cond b (Some (position_or_len p xs)) None ≡ Some place → (b ≡ true) × (position_or_len p xs ≡ place)
place_is p xs place true is h = (refl, cc (h))
place_is p xs place false is h = cc (h)

none_below : (b : Bool) (n : ℕ) → cond b (Some n) None ≡ None → b ≡ false
none_below true n h = cc (h)
none_below false n h = refl

pub no_blank : (text : List ℕ) → position is_blank text ≡ None → list_any is_blank text ≡ false
no_blank text h = sym (any_from_place is_blank text) ∙ none_below (nat_lt (position_or_len is_blank text) (length text)) (position_or_len is_blank text) h

pub has_blank : (text : List ℕ) (place : ℕ) → position is_blank text ≡ Some place → list_any is_blank text ≡ true
has_blank text place h = sym (any_from_place is_blank text) ∙ (place_is is_blank text place (nat_lt (position_or_len is_blank text) (length text)) refl h).0

pub blank_at : (text : List ℕ) (place : ℕ) → position is_blank text ≡ Some place → position_or_len is_blank text ≡ place
blank_at text place h = (place_is is_blank text place (nat_lt (position_or_len is_blank text) (length text)) refl h).1

-- a text without a blank has no other parts
pub nothing_behind : (text : List ℕ) → list_any is_blank text ≡ false → other_parts text ≡ []
nothing_behind text h =
    let past : nat_lt (position_or_len is_blank text) (length text) ≡ false = any_from_place is_blank text ∙ h in
    let over : length text ≤ position_or_len is_blank text = grind (arith, nat_tests) in
    nil_from_length (other_parts text) (omega (arith, length-drop (position_or_len is_blank text + 1) text))

-- what is left when the first part and its blank are cut off
pub cut_behind : (text : List ℕ) (place : ℕ) → position_or_len is_blank text ≡ place → take (length text - (place + 1)) (drop (place + 1) text) ≡ other_parts text
cut_behind text place is =
    take_all (length text - (place + 1)) (drop (place + 1) text) (omega (arith, length-drop (place + 1) text)) ∙ ap (λ n. drop (n + 1) text) (sym is)

-- ---- numbers

-- digits are a text
pub digits_are_text : (text : List ℕ) → IsNumeral 10 text → IsUtf8 text
digits_are_text text h = IsUtf8-from_ascii text (λ i. below i (nat_lt i (length text)) refl)
  where
    below : (i : ℕ) (b : Bool) → nat_lt i (length text) ≡ b → get_or text i 0 < 128
    below i true e = let at = digit_at text i h.1 (ltb-true i (length text) e) in omega (arith, at.0, at.1)
    below i false e =
        let over : length text ≤ i = grind (arith, nat_tests) in
        let zero : get_or text i 0 ≡ 0 = get_or_past text i 0 over in
        omega arith

-- the empty text is no number
pub empty_is_no_number : (text : List ℕ) (n : ℕ) → text ≡ [] → Names text n → ⊥
empty_is_no_number text n e h = let none : length text ≡ 0 = ap length e in absurd (omega (arith, h.0.0))

-- a line without a blank asks for nothing, but for a turn
pub one_part_asks_nothing : (line : List ℕ) → list_any is_blank line ≡ false → (line ≡ codes "settle" → ⊥) → (a : Act) → IsActOf line a → ⊥
one_part_asks_nothing line h apart (act.Open s) is = empty_is_no_number (other_parts line) s (nothing_behind line h) is.1
one_part_asks_nothing line h apart (act.Shut s) is = empty_is_no_number (other_parts line) s (nothing_behind line h) is.1
one_part_asks_nothing line h apart (act.Piece s bytes) (inl is) = empty_is_no_number (first_part (other_parts line)) s (ap first_part (nothing_behind line h)) is.1.session
one_part_asks_nothing line h apart (act.Piece s bytes) (inr is) = empty_is_no_number (first_part (other_parts line)) s (ap first_part (nothing_behind line h)) is.1.session
one_part_asks_nothing line h apart act.Settle is = apart is
one_part_asks_nothing line h apart (act.Clock t) is = empty_is_no_number (other_parts line) t (nothing_behind line h) is.1

-- nor does a text without a blank name bytes to send
pub one_part_sends_nothing : (rest : List ℕ) (s : ℕ) (bytes : List ℕ) → list_any is_blank rest ≡ false → SendsRaw rest s bytes → ⊥
unfolding hex_on_literals
one_part_sends_nothing rest s bytes h is =
    let none : decode_of [] ≡ Ok bytes = subst (λ text. decode_of text ≡ Ok bytes) (nothing_behind rest h) is.bytes_are.0 in
    let empty : 0 ≡ length bytes = ap read_length none in
    absurd (omega (arith, empty, is.bytes_are.1))
  where
    read_length : Result (List ℕ) FromHexError → ℕ
    read_length (Ok read) = length read
    read_length (Err e) = 0
