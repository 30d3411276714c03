-- Entries, templates, and when a template matches an entry.
use Rattle.std.specs.Prelude.{ℕ, Bool, true, false, not, ◌&&◌, ◌||◌, nat_le, List, [], ◌∷◌, map, length, Option, Some, None, option_and_then, sum_by, find, bytes_eq}
use Rattle.std.specs.List.{list_all}
use Rattle.std.specs.Option.{option_map_or}
use Rattle.std.specs.Ordering.{int_eq}
use Rattle.std.specs.Bool.{beq}
use Rattle.jsp_types.specs.declared.value.Kind.{Kind}
use Rattle.jsp_types.specs.declared.value.Kind.TheVariants as kind
use Rattle.jsp_types.specs.declared.value.Value.{Value}
use Rattle.jsp_types.specs.declared.value.Value.TheVariants as value
use Rattle.jsp_types.specs.declared.class.Class.{Class}
use Rattle.jsp_types.specs.declared.entry.Raw.{Raw}
use Rattle.jsp_types.specs.declared.entry.Entry.{Entry}
use Rattle.jsp_types.specs.declared.entry.Template.{Template}
use Rattle.jsp_types.specs.declared.entry.Template.TheVariants.{Any, Like}
use Rattle.jsp_types.specs.declared.entry.EntryFault.{EntryFault}
use Rattle.jsp_types.specs.declared.entry.EntryFault.TheVariants.{UnknownClass, BadEntry}
use Rattle.jsp_types.specs.Classes.{is_declared, is_sub, fields_of, are_distinct}
use Rattle.jsp_types.specs.Tests.{first_that}

abbrev pub is_null : Value → Bool
is_null value.Null = true
is_null (value.Int n) = false
is_null (value.Text t) = false
is_null (value.Bool b) = false

abbrev pub value_eq : Value → Value → Bool
value_eq value.Null value.Null = true
value_eq (value.Int m) (value.Int n) = int_eq m n
value_eq (value.Text s) (value.Text t) = bytes_eq s t
value_eq (value.Bool a) (value.Bool b) = beq a b
value_eq _ _ = false

-- the field's value, null where there is none
abbrev pub value_at : List (List ℕ × Value) → List ℕ → Value
value_at fields name = option_map_or (λ f. f.1) (find (λ f. bytes_eq f.0 name) fields) value.Null

-- a null template matches every entry; another one the entries of its class and its subclasses whose fields
-- equal each of its fields that isn't null
abbrev pub matches : List Class → Template → Entry → Bool
matches classes Any e = true
matches classes (Like t) e =
    is_sub classes e.class t.class && list_all (λ f. is_null f.1 || value_eq f.1 (value_at e.fields f.0)) t.fields

-- ---- entries and templates as requests write them

-- null is of each kind
abbrev pub has_kind : Value → Kind → Bool
has_kind value.Null k = true
has_kind (value.Int n) kind.Int = true
has_kind (value.Text t) kind.Text = true
has_kind (value.Bool b) kind.Bool = true
has_kind _ _ = false

-- how many bytes of text it is
abbrev pub text_len : Value → ℕ
text_len (value.Text t) = length t
text_len _ = 0

-- the class has the field, of the value's kind
abbrev pub is_field_of : List Class → List ℕ → List ℕ × Value → Bool
is_field_of classes class f = option_map_or (λ g. has_kind f.1 g.1) (find (λ g. bytes_eq g.0 f.0) (fields_of classes class)) false

-- how many bytes of text they are together
abbrev pub text_size : List (List ℕ × Value) → ℕ
text_size fields = sum_by (λ f. text_len f.1) fields

-- the class's fields, null where none is given
abbrev pub entry_of : List Class → Raw → Entry
entry_of classes raw = record { class = raw.class; fields = map (λ f. (f.0, value_at raw.fields f.0)) (fields_of classes raw.class) }

-- a name that stands twice, a field that the class hasn't, a value of another kind, or too much text
abbrev pub is_bad : List Class → Raw → Bool
is_bad classes raw =
    not (are_distinct raw.fields && list_all (is_field_of classes raw.class) raw.fields && nat_le (text_size (entry_of classes raw).fields) 8192)

-- the limits that each entry keeps: 64 bytes a name, 32 fields, 8,192 bytes of text
abbrev pub is_small : Entry → Bool
is_small e = nat_le (length e.class) 64 && nat_le (length e.fields) 32 && list_all (λ f. nat_le (length f.0) 64) e.fields && nat_le (text_size e.fields) 8192

-- a template keeps them too
abbrev pub is_small_template : Template → Bool
is_small_template Any = true
is_small_template (Like e) = is_small e

abbrev pub is_unknown : List Class → Raw → Bool
is_unknown classes raw = not (is_declared classes raw.class)

-- why it is refused, the first that applies
abbrev pub entry_fault : List Class → Raw → Option EntryFault
entry_fault classes raw = first_that ((is_unknown classes raw, UnknownClass) ∷ (is_bad classes raw, BadEntry) ∷ [])

abbrev pub template_of : List Class → Option Raw → Template
template_of classes None = Any
template_of classes (Some raw) = Like (entry_of classes raw)

-- why it is refused; the null template isn't
abbrev pub template_fault : List Class → Option Raw → Option EntryFault
template_fault classes raw = option_and_then (entry_fault classes) raw
