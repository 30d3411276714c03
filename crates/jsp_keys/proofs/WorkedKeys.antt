-- Keys of what may be taken for one another, computed: under each of a hundred seeds they differ.
use Rattle.std.proofs.Common.{◌≡◌, ℕ, zero, suc, ◌*◌, ◌%◌, ◌^◌, Bool, true, false, not, eqb, List, [], ◌∷◌, ◌++◌, replicate, codes, pos, negsuc, refl}
use Rattle.std.specs.List.{list_all}
use Rattle.jsp_types.specs.declared.value.Value.{Value}
use Rattle.jsp_types.specs.declared.value.Value.TheVariants as value
use Rattle.jsp_keys.specs.Keys.{folded_multiply, class_key, field_key}

-- so many seeds, of all sizes
unfoldable seeds : ℕ → List ℕ
seeds zero = []
seeds (suc n) = n * 0x9e37_79b9_7f4a_7c15 % 2 ^ 64 ∷ seeds n

unfoldable differ : (ℕ → ℕ) → (ℕ → ℕ) → Bool
differ a b = list_all (λ seed. not (eqb (a seed) (b seed))) (seeds 100)

abbrev of_class : List ℕ → ℕ → ℕ
of_class class seed = class_key seed 1 class

abbrev of_field : List ℕ → Value → ℕ → ℕ
of_field name v seed = field_key seed 1 name v

abbrev of_value : Value → ℕ → ℕ
of_value v = of_field (codes "k") v

-- ---- a text, and that text with nulls behind it

a_class_with_nulls : differ (of_class (codes "a")) (of_class (codes "a" ++ replicate 7 0)) ≡ true
unfolding differ seeds folded_multiply class_key field_key
a_class_with_nulls = refl

a_name_with_nulls : differ (of_field (codes "a") (value.Int (pos 1))) (of_field (codes "a" ++ replicate 7 0) (value.Int (pos 1))) ≡ true
unfolding differ seeds folded_multiply class_key field_key
a_name_with_nulls = refl

a_text_with_nulls : differ (of_value (value.Text (codes "a"))) (of_value (value.Text (codes "a" ++ replicate 7 0))) ≡ true
unfolding differ seeds folded_multiply class_key field_key
a_text_with_nulls = refl

a_rest_with_nulls : differ (of_value (value.Text (codes "12345678a"))) (of_value (value.Text (codes "12345678a" ++ replicate 7 0))) ≡ true
unfolding differ seeds folded_multiply class_key field_key
a_rest_with_nulls = refl

-- ---- values of two kinds

-- the integer of the text's eight bytes
an_integer_and_a_text : differ (of_value (value.Int (pos 0x6867_6665_6463_6261))) (of_value (value.Text (codes "abcdefgh"))) ≡ true
unfolding differ seeds folded_multiply class_key field_key
an_integer_and_a_text = refl

a_truth_and_an_integer : differ (of_value (value.Bool true)) (of_value (value.Int (pos 1))) ≡ true
unfolding differ seeds folded_multiply class_key field_key
a_truth_and_an_integer = refl

a_falsehood_and_a_null : differ (of_value (value.Bool false)) (of_value value.Null) ≡ true
unfolding differ seeds folded_multiply class_key field_key
a_falsehood_and_a_null = refl

no_text_and_a_null : differ (of_value (value.Text [])) (of_value value.Null) ≡ true
unfolding differ seeds folded_multiply class_key field_key
no_text_and_a_null = refl

-- ---- 5 and -6

two_integers : differ (of_value (value.Int (pos 5))) (of_value (value.Int (negsuc 5))) ≡ true
unfolding differ seeds folded_multiply class_key field_key
two_integers = refl

-- ---- a name and a value, split elsewhere

a_text_split_elsewhere : differ (of_field (codes "ab") (value.Text (codes "c"))) (of_field (codes "a") (value.Text (codes "bc"))) ≡ true
unfolding differ seeds folded_multiply class_key field_key
a_text_split_elsewhere = refl

-- the name's last eight bytes are an integer's
an_integer_split_elsewhere : differ (of_field (codes "abcdefgh") value.Null) (of_field [] (value.Int (pos 0x6867_6665_6463_6261))) ≡ true
unfolding differ seeds folded_multiply class_key field_key
an_integer_split_elsewhere = refl
