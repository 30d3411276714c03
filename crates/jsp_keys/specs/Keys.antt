-- Keys, by a seed. Two may be the same number, but only by chance of the seed: how long a text is, and of which kind a
-- value is, goes in before it.
use Rattle.std.specs.Prelude.{ℕ, ◌+◌, ◌*◌, ◌/◌, ◌-◌, ◌^◌, bit_and, bit_xor, if◌then◌else◌, List, [], ◌∷◌, length}
use Rattle.std.specs.Int.{w64, cast_unsigned, from_le_bytes}
use Rattle.jsp_types.specs.declared.value.Value.{Value}
use Rattle.jsp_types.specs.declared.value.Value.TheVariants as value

-- the halves of the 128 bits of a product, joined by xor
unfoldable pub folded_multiply : ℕ → ℕ → ℕ
folded_multiply a b = bit_xor (bit_and (a * b) (2 ^ 64 - 1)) (a * b / 2 ^ 64)

-- the key and one more part
abbrev pub mix : ℕ → ℕ → ℕ
mix key part = folded_multiply (bit_xor key part) 0x9e37_79b9_7f4a_7c15

abbrev pub mix_all : ℕ → List ℕ → ℕ
mix_all key [] = key
mix_all key (b ∷ bs) = mix_all (mix key b) bs

-- by eight bytes, of which one number is made, and the last seven or fewer one by one
abbrev pub mix_words : ℕ → List ℕ → ℕ
mix_words key (a ∷ b ∷ c ∷ d ∷ e ∷ f ∷ g ∷ h ∷ bytes) = mix_words (mix key (from_le_bytes w64 (a ∷ b ∷ c ∷ d ∷ e ∷ f ∷ g ∷ h ∷ []))) bytes
mix_words key bytes = mix_all key bytes

-- how long the text is, and its bytes
abbrev pub mix_text : ℕ → List ℕ → ℕ
mix_text key text = mix_words (mix key (length text)) text

-- null is 0, false 1 and true 2; an integer is 3 and its 64 bits, a text 4 and its length as one number, and its bytes
abbrev pub mix_value : ℕ → Value → ℕ
mix_value key value.Null = mix key 0
mix_value key (value.Bool b) = mix key (if b then 2 else 1)
mix_value key (value.Int n) = mix (mix key 3) (cast_unsigned w64 n)
mix_value key (value.Text t) = mix_words (mix key (4 + length t)) t

-- of what has a number of this kind; spaces, classes and fields have the first three kinds, sessions, transactions
-- and templates without a value the kinds 4, 5 and 8
abbrev pub number_key : ℕ → ℕ → ℕ → ℕ
number_key seed kind number = mix (mix seed kind) number

abbrev pub space_key : ℕ → ℕ → ℕ
space_key seed space = number_key seed 1 space

abbrev pub session_key : ℕ → ℕ → ℕ
session_key seed session = number_key seed 4 session

abbrev pub transaction_key : ℕ → ℕ → ℕ
transaction_key seed x = number_key seed 5 x

-- of those at a space whose template asks for no value
abbrev pub any_key : ℕ → ℕ → ℕ
any_key seed space = number_key seed 8 space

unfoldable pub class_key : ℕ → ℕ → List ℕ → ℕ
class_key seed space class = mix_text (number_key seed 2 space) class

unfoldable pub field_key : ℕ → ℕ → List ℕ → Value → ℕ
field_key seed space name v = mix_value (mix_text (number_key seed 3 space) name) v

-- of a template that asks for so many values, this one among them
abbrev pub several_key : ℕ → ℕ → ℕ → List ℕ → Value → ℕ
several_key seed count space name v = mix (field_key seed space name v) count

-- of all templates at a space that ask for so many values
abbrev pub count_key : ℕ → ℕ → ℕ → ℕ
count_key seed count space = mix (number_key seed 9 space) count
