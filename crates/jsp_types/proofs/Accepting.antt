-- An entry that isn't bad for the fields of its declared class is accepted.
use Rattle.std.proofs.Common.{◌≡◌, ℕ, Bool, true, false, not, cond, ◌&&◌, nat_le, List, length, Option, Some, None, is_some, IsTrue, refl, sym, ◌∙◌, ap}
use Rattle.std.specs.Prelude.{if◌then◌else◌}
use Rattle.std.specs.List.{list_all}
use Rattle.std.proofs.lemmas.Bool.{and_parts, and_from}
use Rattle.std.proofs.lemmas.List.{length-map}
use Rattle.std.proofs.lemmas.List.Folds.{list_all-map}
use Rattle.jsp_types.specs.declared.value.Kind.{Kind}
use Rattle.jsp_types.specs.declared.value.Value.{Value}
use Rattle.jsp_types.specs.declared.class.Class.{Class}
use Rattle.jsp_types.specs.declared.entry.Raw.{Raw}
use Rattle.jsp_types.specs.declared.entry.Entry.{Entry}
use Rattle.jsp_types.specs.declared.entry.EntryFault.TheVariants.{UnknownClass}
use Rattle.jsp_types.specs.declared.known.Known.{Known}
use Rattle.jsp_types.specs.Known.{IsKeptOf}
use Rattle.jsp_types.specs.Classes.{class_named, is_declared, are_distinct, fields_of, declared_fields, is_within_limits}
use Rattle.jsp_types.specs.Matching.{value_at, text_size, entry_of, is_bad, entry_fault, is_small}
use Rattle.jsp_types.specs.Checking.{is_field_among, filled, filled_entry, is_bad_for, IsAccepted}
use Rattle.jsp_types.proofs.Finding.{kept_name}

-- what is kept of a declared class has its fields
pub kept_fields : (classes : List Class) (name : List ℕ) (known : Known) → IsKeptOf classes name known → Some known.fields ≡ declared_fields classes name
kept_fields classes name known h = ap Some h.fields ∙ sym (ap (λ (o : Option Class). if is_some o then Some (fields_of classes name) else None) h.named)

declared_with : (classes : List Class) (name : List ℕ) (fields : List (List ℕ × Kind)) → Some fields ≡ declared_fields classes name → (is_declared classes name ≡ true) × (fields ≡ fields_of classes name)
declared_with classes name fields same =
    let Goal : Bool → Type 0 = λ b. Some fields ≡ cond b (Some (fields_of classes name)) None → (b ≡ true) × (fields ≡ fields_of classes name) in
    let by_cases : (b : Bool) → Goal b = λ b. elim b as Goal [ true ↦ λ e. (refl, cc) | false ↦ λ e. cc ] in
    by_cases (is_declared classes name) same

not-false : (b : Bool) → not b ≡ false → b ≡ true
not-false true e = refl
not-false false e = cc

small_text : (fields : List (List ℕ × Kind)) (given : List (List ℕ × Value)) → is_bad_for fields given ≡ false → nat_le (text_size (filled fields given)) 8192 ≡ true
small_text fields given good =
    (and_parts (are_distinct given && list_all (is_field_among fields) given) (nat_le (text_size (filled fields given)) 8192) (not-false _ good)).1

small_names : (fields : List (List ℕ × Kind)) (given : List (List ℕ × Value)) → list_all (λ f. nat_le (length f.0) 64) fields ≡ true → list_all (λ f. nat_le (length f.0) 64) (filled fields given) ≡ true
small_names fields given small = list_all-map (λ f. nat_le (length f.0) 64) (λ f. (f.0, value_at given f.0)) fields ∙ small

small_entry : (classes : List Class) (raw : Raw) → IsTrue (is_within_limits raw.class (fields_of classes raw.class)) → is_bad_for (fields_of classes raw.class) raw.fields ≡ false → IsTrue (is_small (entry_of classes raw))
small_entry classes raw within good =
    let fields : List (List ℕ × Kind) = fields_of classes raw.class in
    let limits = and_parts (nat_le (length raw.class) 64 && nat_le (length fields) 32) (list_all (λ f. nat_le (length f.0) 64) fields) within in
    let lengths = and_parts (nat_le (length raw.class) 64) (nat_le (length fields) 32) limits.0 in
    and_from _ _
    (and_from _ _
    (and_from _ _ lengths.0 (ap (λ n. nat_le n 32) (length-map fields (λ f. (f.0, value_at raw.fields f.0))) ∙ lengths.1))
    (small_names fields raw.fields limits.1))
    (small_text fields raw.fields good)

unrefused : (classes : List Class) (raw : Raw) → is_declared classes raw.class ≡ true → is_bad classes raw ≡ false → entry_fault classes raw ≡ None
unrefused classes raw known good = rw (known, good)

pub accepted : (classes : List Class) (raw : Raw) (name : List ℕ) (fields : List (List ℕ × Kind)) (given : List (List ℕ × Value)) (bad : Bool) → name ≡ raw.class → given ≡ raw.fields → Some fields ≡ declared_fields classes name → IsTrue (is_within_limits name fields) → bad ≡ is_bad_for fields given → bad ≡ false → IsAccepted classes raw fields
accepted classes raw name fields given bad same_name same_given same within tested good =
    let known = declared_with classes raw.class fields (same ∙ ap (declared_fields classes) same_name) in
    let good_here : is_bad_for (fields_of classes raw.class) raw.fields ≡ false =
    ap (λ fs. is_bad_for fs raw.fields) (sym known.1) ∙ ap (is_bad_for fields) (sym same_given) ∙ sym tested ∙ good in
    let within_here : IsTrue (is_within_limits raw.class (fields_of classes raw.class)) =
    ap (is_within_limits raw.class) (sym known.1) ∙ ap (λ n. is_within_limits n fields) (sym same_name) ∙ within in
    record {
      fields_of_class = known.1;
      unrefused = unrefused classes raw known.0 good_here;
      within_limits = small_entry classes raw within_here good_here;
    }

-- ---- an entry that isn't refused

unknown_refused : (classes : List Class) (raw : Raw) → class_named classes raw.class ≡ None → entry_fault classes raw ≡ Some UnknownClass
unknown_refused classes raw none = rw none refl

pub known_unless_refused : (classes : List Class) (raw : Raw) (name : List ℕ) → entry_fault classes raw ≡ None → name ≡ raw.class → class_named classes name ≡ None → ⊥
known_unless_refused classes raw name good same none =
    let refused = unknown_refused classes raw (sym (ap (class_named classes) same) ∙ none) in
    let no : Some UnknownClass ≡ None = sym refused ∙ good in
    absurd (cc (no))

abbrev filled_with : List ℕ → List (List ℕ × Kind) → Raw → Entry
filled_with class fields raw = record { class = class; fields = filled fields raw.fields }

-- what is filled by what is kept of its class is the entry
pub filled_is : (classes : List Class) (raw : Raw) (name : List ℕ) (known : Known) → IsKeptOf classes name known → name ≡ raw.class → filled_entry known raw ≡ entry_of classes raw
filled_is classes raw name known h same =
    let class : known.class.name ≡ raw.class = kept_name classes name known h ∙ same in
    let fields : known.fields ≡ fields_of classes raw.class = h.fields ∙ ap (fields_of classes) same in
    ap (λ c. filled_with c known.fields raw) class ∙ ap (λ fs. filled_with raw.class fs raw) fields
