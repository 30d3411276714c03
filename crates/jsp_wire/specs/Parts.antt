-- The parts of a request's object, over the value that serde_json reads.
use Rattle.std.specs.Prelude.{◌≡◌, ℕ, ◌==◌, ◌||◌, ℤ, pos, negsuc, List, [], ◌∷◌, Bool, false, if◌then◌else◌, Option, Some, None, option_map, Result, Ok, Err, codes}
use Rattle.std.specs.Str.{bytes_eq}
use Rattle.serde_json.specs.Data.{Data, null, boolean, number, string, array, object, Items, no_items, item, Members, no_members, member}
use Rattle.serde_json.specs.Find.{get, as_str, as_number, as_i64, as_array, as_object}
use Rattle.jsp_types.specs.declared.value.Kind.{Kind}
use Rattle.jsp_types.specs.declared.value.Kind.TheVariants as kind
use Rattle.jsp_types.specs.declared.value.Value.{Value}
use Rattle.jsp_types.specs.declared.value.Value.TheVariants as value
use Rattle.jsp_types.specs.declared.entry.Raw.{Raw}
use Rattle.jsp_wire.specs.declared.ask.Version.{Version}
use Rattle.jsp_wire.specs.declared.ask.Version.TheVariants as version
use Rattle.jsp_wire.specs.declared.fault.Flaw.{Flaw}
use Rattle.jsp_wire.specs.declared.fault.Flaw.TheVariants.{Refused, Memory}

infixl 10 ◌>>=◌
abbrev pub ◌>>=◌ : {A B : Type 0} → Option A → (A → Option B) → Option B
(Some x) >>= f = f x
None >>= f = None

-- what a function returned is what reading gives, unless memory ran out
abbrev pub Gives : {X : Type 0} → Result X Flaw → Option X → Type 0
Gives (Ok x) read = read ≡ Some x
Gives (Err Refused) read = read ≡ None
Gives (Err Memory) read = Unit {0}

-- ---- which keys an object has

abbrev pub is_known : List (List ℕ) → List ℕ → Bool
is_known [] k = false
is_known (n ∷ ns) k = bytes_eq n k || is_known ns k

abbrev pub only_members : List (List ℕ) → Members → Option (Unit {0})
only_members names no_members = Some tt
only_members names (member k d ms) = if is_known names k then only_members names ms else None

-- an object that has no key beside these
abbrev pub only : List (List ℕ) → Data → Option (Unit {0})
only names d = as_object d >>= only_members names

-- ---- texts and numbers

abbrev pub number_of : Data → Option ℤ
number_of d = as_number d >>= as_i64

abbrev pub text_at : List ℕ → Data → Option (List ℕ)
text_at k d = get k d >>= as_str

abbrev pub number_at : List ℕ → Data → Option ℤ
number_at k d = get k d >>= number_of

-- what may be null
abbrev pub or_null : {A : Type 0} → (Data → Option A) → Data → Option (Option A)
or_null read null = Some None
or_null read (boolean b) = option_map Some (read (boolean b))
or_null read (number n) = option_map Some (read (number n))
or_null read (string s) = option_map Some (read (string s))
or_null read (array ds) = option_map Some (read (array ds))
or_null read (object ms) = option_map Some (read (object ms))

-- what may be absent
abbrev pub if_present : {A : Type 0} → (Data → Option (Option A)) → Option Data → Option (Option A)
if_present read None = Some None
if_present read (Some d) = read d

abbrev pub optional_text_at : List ℕ → Data → Option (Option (List ℕ))
optional_text_at k d = if_present (or_null as_str) (get k d)

abbrev pub optional_number_at : List ℕ → Data → Option (Option ℤ)
optional_number_at k d = if_present (or_null number_of) (get k d)

abbrev pub natural : ℤ → Option ℕ
natural (pos n) = Some n
natural (negsuc n) = None

-- a number that isn't negative
abbrev pub count_at : List ℕ → Data → Option ℕ
count_at k d = number_at k d >>= natural

abbrev pub version_numbered : ℕ → Option Version
version_numbered n =
    if n == 1 then Some version.One
    else (if n == 2 then Some version.Two
    else None)

abbrev pub version_at : List ℕ → Data → Option Version
version_at k d = count_at k d >>= version_numbered

-- the number of a request
abbrev pub id_at : Data → Option ℕ
id_at d = count_at (codes "id") d

-- ---- lists

-- each item, read by read, in order
abbrev pub each_item : {A : Type 0} → (Data → Option A) → Items → Option (List A)
each_item read no_items = Some []
each_item read (item d ds) = read d >>= λ x. option_map (λ xs. x ∷ xs) (each_item read ds)

abbrev pub items_at : {A : Type 0} → (Data → Option A) → List ℕ → Data → Option (List A)
items_at read k d = get k d >>= as_array >>= each_item read

-- two numbers, and no third item
abbrev pub two_numbers : Items → Option (ℤ × ℤ)
two_numbers no_items = None
two_numbers (item d no_items) = None
two_numbers (item d (item e no_items)) = number_of d >>= λ x. option_map (λ y. (x, y)) (number_of e)
two_numbers (item d (item e (item f ds))) = None

abbrev pub pair_of : Data → Option (ℤ × ℤ)
pair_of d = as_array d >>= two_numbers

abbrev pub numbers_at : List ℕ → Data → Option (List ℤ)
numbers_at k d = items_at number_of k d

abbrev pub pairs_at : List ℕ → Data → Option (List (ℤ × ℤ))
pairs_at k d = items_at pair_of k d

-- ---- fields

-- each member under its key, read by read, in the order of the members, which serde_json keeps in byte order of the keys
abbrev pub each_member : {A : Type 0} → (Data → Option A) → Members → Option (List (List ℕ × A))
each_member read no_members = Some []
each_member read (member k d ms) = read d >>= λ x. option_map (λ xs. (k, x) ∷ xs) (each_member read ms)

abbrev pub members_at : {A : Type 0} → (Data → Option A) → List ℕ → Data → Option (List (List ℕ × A))
members_at read k d = get k d >>= as_object >>= each_member read

abbrev pub value_of : Data → Option Value
value_of null = Some value.Null
value_of (boolean b) = Some (value.Bool b)
value_of (number n) = option_map value.Int (as_i64 n)
value_of (string s) = Some (value.Text s)
value_of (array ds) = None
value_of (object ms) = None

-- the kind of that name, or none
abbrev pub kind_named : List ℕ → Option Kind
kind_named name =
    if bytes_eq name (codes "int") then Some kind.Int
    else (if bytes_eq name (codes "text") then Some kind.Text
    else (if bytes_eq name (codes "bool") then Some kind.Bool
    else None))

-- a text, whether or not it names a kind
abbrev pub kind_of : Data → Option (Option Kind)
kind_of d = option_map kind_named (as_str d)

abbrev pub kinds_at : List ℕ → Data → Option (List (List ℕ × Option Kind))
kinds_at k d = members_at kind_of k d

-- ---- entries and templates

unfoldable pub raw_of : Data → Option Raw
raw_of d = do
  _ ← only (codes "class" ∷ codes "fields" ∷ []) d
  class ← text_at (codes "class") d
  fields ← members_at value_of (codes "fields") d
  Some (record { class = class; fields = fields })

abbrev pub entry_at : List ℕ → Data → Option Raw
entry_at k d = get k d >>= raw_of

abbrev pub entries_at : List ℕ → Data → Option (List Raw)
entries_at k d = items_at raw_of k d

-- null is the template that matches every entry
abbrev pub template_of : Data → Option (Option Raw)
template_of d = or_null raw_of d

abbrev pub template_at : List ℕ → Data → Option (Option Raw)
template_at k d = get k d >>= template_of

abbrev pub templates_at : List ℕ → Data → Option (List (Option Raw))
templates_at k d = items_at template_of k d
