-- What reading a value gives, by its first token, and the items of a list that grows at its end.
use Rattle.std.proofs.Common.{◌≡◌, ℕ, ◌-◌, ◌<◌, ◌⊎◌, List, [], ◌∷◌, ◌++◌, length, Bool, Option, Some, None, Vec, Global, Bor, refl, ap, ap₂, ◌∙◌, inl, inr, rules}
use Rattle.json.specs.Token as token
use Rattle.json.specs.Token.{Token}
use Rattle.json.specs.Json.{parse_map, items, members, value}
use Rattle.json.proofs.Grammar.{value_is, value-begin_array, value-begin_object}
use Rattle.serde_json.specs.Data.{Num, Data, null, boolean, number, string, array, object, Items, no_items, item, no_members}
use Rattle.serde_json.specs.Read.{number_of, of_json, of_items, of_members, converted}
use Rattle.serde_json.specs.View.{number_view}
use Rattle.serde_json.specs.declared.number.Number.{Number}
use Rattle.jsp_wire.proofs.Converted.{converted-array, converted-object}
use Rattle.jsp_wire.specs.declared.tree.Tree.{Tree, Null, Object, the_lemmas}
use Rattle.jsp_wire.specs.declared.tree.Tree as tree
use Rattle.jsp_wire.specs.Tree.{view, items_view, members_view}

-- these items, and then others
abbrev pub items_before : List Tree → Items → Items
items_before [] rest = rest
items_before (t ∷ ts) rest = item (view t) (items_before ts rest)

pub items_before-no_items : (ts : List Tree) → items_before ts no_items ≡ items_view ts
items_before-no_items [] = refl
items_before-no_items (t ∷ ts) = ap (item (view t)) (items_before-no_items ts)

items_push : (ts : List Tree) (t : Tree) (rest : Items) → items_before ts (item (view t) rest) ≡ items_before (ts ++ t ∷ []) rest
items_push [] t rest = refl
items_push (u ∷ ts) t rest = ap (item (view u)) (items_push ts t rest)

-- one item more was read
pub one_more : (ts : List Tree) (t : Tree) (r : Option (Items × List Token)) → parse_map (items_before ts) (parse_map (item (view t)) r) ≡ parse_map (items_before (ts ++ t ∷ [])) r
one_more ts t None = refl
one_more ts t (Some p) = ap (λ is. Some (is, p.1)) (items_push ts t p.0)

-- ---- the first token of a value

-- what reading the value gives
abbrev pub reads : ℕ → List Token → Option (Data × List Token)
reads depth ts = converted of_json (value depth ts)

pub reads-empty : (depth : ℕ) (ts : List Token) → ts ≡ [] → reads depth ts ≡ None
reads-empty depth ts is = ap (converted of_json) (ap (value depth) is ∙ value_is depth [])

pub reads-no_depth : (depth : ℕ) (ts rest : List Token) (t : Token) → depth ≡ 0 → ts ≡ t ∷ rest → (t ≡ token.begin_array) ⊎ (t ≡ token.begin_object) → reads depth ts ≡ None
unfolding value
reads-no_depth depth ts rest t none is opens =
    ap (converted of_json) (ap₂ value none is) ∙ elim opens [
      | inl is_array ↦ ap (λ k. converted of_json (value 0 (k ∷ rest))) is_array
      | inr is_object ↦ ap (λ k. converted of_json (value 0 (k ∷ rest))) is_object
    ]

pub reads-array : (depth : ℕ) (ts rest : List Token) → 0 < depth → ts ≡ token.begin_array ∷ rest
    → reads depth ts ≡ parse_map array (converted of_items (items (value (depth - 1)) (length rest) rest))
reads-array depth ts rest some is =
    ap (converted of_json) (ap (value depth) is ∙ value-begin_array depth rest some) ∙ converted-array (items (value (depth - 1)) (length rest) rest)

pub reads-object : (depth : ℕ) (ts rest : List Token) → 0 < depth → ts ≡ token.begin_object ∷ rest
    → reads depth ts ≡ parse_map object (converted (λ ms. of_members ms no_members) (members (value (depth - 1)) (length rest) rest))
reads-object depth ts rest some is =
    ap (converted of_json) (ap (value depth) is ∙ value-begin_object depth rest some) ∙ converted-object (members (value (depth - 1)) (length rest) rest)

pub reads-null : (depth : ℕ) (ts rest : List Token) → ts ≡ token.null ∷ rest → reads depth ts ≡ Some (null, rest)
reads-null depth ts rest is = ap (converted of_json) (ap (value depth) is ∙ value_is depth _)

pub reads-boolean : (depth : ℕ) (ts rest : List Token) (b : Bool) → ts ≡ token.boolean b ∷ rest → reads depth ts ≡ Some (boolean b, rest)
reads-boolean depth ts rest b is = ap (converted of_json) (ap (value depth) is ∙ value_is depth _)

pub reads-string : (depth : ℕ) (ts rest : List Token) (s : List ℕ) → ts ≡ token.string s ∷ rest → reads depth ts ≡ Some (string s, rest)
reads-string depth ts rest s is = ap (converted of_json) (ap (value depth) is ∙ value_is depth _)

pub reads-number : (depth : ℕ) (ts rest : List Token) (s : List ℕ) (n : Num) → ts ≡ token.number s ∷ rest → number_of s ≡ Some n → reads depth ts ≡ Some (number n, rest)
reads-number depth ts rest s n is found = ap (converted of_json) (ap (value depth) is ∙ value_is depth _) ∙ rw found refl

pub reads-no_number : (depth : ℕ) (ts rest : List Token) (s : List ℕ) → ts ≡ token.number s ∷ rest → number_of s ≡ None → reads depth ts ≡ None
reads-no_number depth ts rest s is none = ap (converted of_json) (ap (value depth) is ∙ value_is depth _) ∙ rw none refl

-- ---- trees

pub view-List : (v : Vec Tree Global) → view (tree.List v) ≡ array (items_view v.items)
view-List v = search (rules, the_lemmas)

pub view-Object : (v : Vec (Bor (List ℕ) × Tree) Global) → view (Object v) ≡ object (members_view v.items)
view-Object v = search (rules, the_lemmas)

pub view-Null : view Null ≡ null
view-Null = search (rules, the_lemmas)

pub view-Bool : (b : Bool) → view (tree.Bool b) ≡ boolean b
view-Bool b = search (rules, the_lemmas)

pub view-Number : (n : Number) → view (tree.Number n) ≡ number (number_view n)
view-Number n = search (rules, the_lemmas)

pub view-Text : (s : Bor (List ℕ)) → view (tree.Text s) ≡ string s.now
view-Text s = search (rules, the_lemmas)
