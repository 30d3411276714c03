-- The grammar of JSON, a turn of a loop at a time, with each value as its data.
use Rattle.std.proofs.Common.{◌≡◌, ℕ, zero, suc, ◌-◌, ◌<◌, ◌≤◌, List, length, Option, Some, None, option_map, option_and_then, refl, ap, ◌∙◌}
use Rattle.json.specs.Token.{Token}
use Rattle.json.specs.Json as json
use Rattle.json.specs.Json.{Parse, parse_map, after_end_array, read_key, items_step, items, members_step, members}
use Rattle.json.proofs.Grammar.{items_end, items_more, members_end, members_no_key, members_more}
use Rattle.serde_json.specs.Data.{Data, array, object, no_items, item, Members, no_members, put}
use Rattle.serde_json.specs.Read.{of_json, of_items, of_members, converted}

-- what follows a value that was read is carried along
abbrev followed : {A : Type 0} → List Token → Option A → Option (A × List Token)
followed r x = option_map (λ a. (a, r)) x

rest_of : {A : Type 0} → A × List Token → Option (A × List Token) → A × List Token
rest_of p None = p
rest_of p (Some q) = q

followed-Some : {A : Type 0} (r s : List Token) (x : Option A) (b : A) → followed r x ≡ Some (b, s) → (r ≡ s) × (x ≡ Some b)
unfolding rest_of
followed-Some r s None b e = absurd (cc)
followed-Some r s (Some a) b e = let same = ap (rest_of (a, r)) e in (ap (λ p. p.1) same, ap (λ p. Some p.0) same)

followed-None : {A : Type 0} (r : List Token) (x : Option A) → followed r x ≡ None → x ≡ None
followed-None r None e = refl
followed-None r (Some a) e = absurd (cc)

followed-map : {A B : Type 0} (g : A → B) (r : List Token) (x : Option A) → followed r (option_map g x) ≡ parse_map g (followed r x)
followed-map g r None = refl
followed-map g r (Some a) = refl

-- what was read as data was read as JSON
read_json : {A B : Type 0} (f : A → Option B) (o : Option (A × List Token)) (b : B) (r : List Token) → converted f o ≡ Some (b, r) → (a : A) × (o ≡ Some (a, r)) × (f a ≡ Some b)
read_json f None b r e = absurd (cc)
read_json f (Some p) b r e = let both = followed-Some p.1 r (f p.0) b e in (p.0, ap (λ s. Some (p.0, s)) both.0, both.1)

pub converted-array : (o : Option (json.Items × List Token)) → converted of_json (parse_map json.array o) ≡ parse_map array (converted of_items o)
converted-array None = refl
converted-array (Some p) = followed-map array p.1 (of_items p.0)

pub converted-object : (o : Option (json.Members × List Token)) → converted of_json (parse_map json.object o) ≡ parse_map object (converted (λ ms. of_members ms no_members) o)
converted-object None = refl
converted-object (Some p) = followed-map object p.1 (of_members p.0 no_members)

-- ---- items

with_item : (j : json.Json) (d : Data) → of_json j ≡ Some d → (o : Option (json.Items × List Token)) → converted of_items (parse_map (json.item j) o) ≡ parse_map (item d) (converted of_items o)
with_item j d e None = refl
with_item j d e (Some p) = rw e (followed-map (item d) p.1 (of_items p.0))

with_no_item : (j : json.Json) → of_json j ≡ None → (o : Option (json.Items × List Token)) → converted of_items (parse_map (json.item j) o) ≡ None
with_no_item j e None = refl
with_no_item j e (Some p) = rw e refl

no_item : (more : Parse json.Items) (o : Option (json.Json × List Token)) → converted of_json o ≡ None → converted of_items (option_and_then (λ q. parse_map (json.item q.0) (more q.1)) o) ≡ None
no_item more None e = refl
no_item more (Some q) e = with_no_item q.0 (followed-None q.1 (of_json q.0) e) (more q.1)

pub items-read : (p : Parse json.Json) (n : ℕ) (ts r : List Token) (d : Data) → 0 < n → after_end_array ts ≡ None → converted of_json (p ts) ≡ Some (d, r)
    → converted of_items (items p n ts) ≡ parse_map (item d) (converted of_items (items p (n - 1) r))
items-read p n ts r d some going e =
    let j = read_json of_json (p ts) d r e in
    ap (converted of_items) (items_more p n ts r j.0 some going j.1) ∙ with_item j.0 d j.2 (items p (n - 1) r)

pub items-refused : (p : Parse json.Json) (n : ℕ) (ts : List Token) → after_end_array ts ≡ None → converted of_json (p ts) ≡ None → converted of_items (items p n ts) ≡ None
unfolding items
items-refused p zero ts going e = refl
items-refused p (suc n) ts going e = ap (λ o. converted of_items (items_step p (items p n) ts o)) going ∙ no_item (items p n) (p ts) e

pub items-over : (p : Parse json.Json) (n : ℕ) (ts r : List Token) → length ts ≤ n → after_end_array ts ≡ Some r → converted of_items (items p n ts) ≡ Some (no_items, r)
items-over p n ts r enough end = ap (converted of_items) (items_end p n ts r enough end)

-- ---- members, put into those that are there

abbrev pub joined : Members → Option (json.Members × List Token) → Option (Members × List Token)
joined old o = converted (λ ms. of_members ms old) o

with_member : (k : List ℕ) (j : json.Json) (d : Data) (old : Members) → of_json j ≡ Some d → (o : Option (json.Members × List Token))
    → joined old (parse_map (json.member k j) o) ≡ joined (put k d old) o
with_member k j d old e None = refl
with_member k j d old e (Some p) = rw e refl

with_no_member : (k : List ℕ) (j : json.Json) (old : Members) → of_json j ≡ None → (o : Option (json.Members × List Token)) → joined old (parse_map (json.member k j) o) ≡ None
with_no_member k j old e None = refl
with_no_member k j old e (Some p) = rw e refl

no_member : (k : List ℕ) (old : Members) (more : Parse json.Members) (o : Option (json.Json × List Token)) → converted of_json o ≡ None
    → joined old (option_and_then (λ q. parse_map (json.member k q.0) (more q.1)) o) ≡ None
no_member k old more None e = refl
no_member k old more (Some q) e = with_no_member k q.0 old (followed-None q.1 (of_json q.0) e) (more q.1)

pub members-read : (p : Parse json.Json) (old : Members) (n : ℕ) (k : List ℕ) (ts s r : List Token) (d : Data) → 0 < n → read_key ts ≡ Some (Some k, s) → converted of_json (p s) ≡ Some (d, r)
    → joined old (members p n ts) ≡ joined (put k d old) (members p (n - 1) r)
members-read p old n k ts s r d some key e =
    let j = read_json of_json (p s) d r e in
    ap (joined old) (members_more p n k ts s r j.0 some key j.1) ∙ with_member k j.0 d old j.2 (members p (n - 1) r)

pub members-refused : (p : Parse json.Json) (old : Members) (n : ℕ) (k : List ℕ) (ts s : List Token) → read_key ts ≡ Some (Some k, s) → converted of_json (p s) ≡ None → joined old (members p n ts) ≡ None
unfolding members
members-refused p old zero k ts s key e = refl
members-refused p old (suc n) k ts s key e = ap (λ o. joined old (option_and_then (λ q. members_step p (members p n) q.0 q.1) o)) key ∙ no_member k old (members p n) (p s) e

pub members-no_key : (p : Parse json.Json) (old : Members) (n : ℕ) (ts : List Token) → read_key ts ≡ None → joined old (members p n ts) ≡ None
members-no_key p old n ts none = ap (joined old) (members_no_key p n ts none)

pub members-over : (p : Parse json.Json) (old : Members) (n : ℕ) (ts r : List Token) → length ts ≤ n → read_key ts ≡ Some (None, r) → joined old (members p n ts) ≡ Some (old, r)
members-over p old n ts r enough end = ap (joined old) (members_end p n ts r enough end)
