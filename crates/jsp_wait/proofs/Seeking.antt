-- Whoever asks for a row is found under a key that the row seeks, and the like of other questions.
use Rattle.std.proofs.Common.{◌≡◌, ℕ, ◌*◌, ◌≤◌, true, List, [], ◌∷◌, ◌++◌, length, map, Option, Some, None, refl, ap, subst, inl, inr, arith}
use Rattle.std.specs.Prelude.{◌==◌}
use Rattle.std.specs.List.{list_any}
use Rattle.std.specs.Option.{option_map_or}
use Rattle.std.proofs.lemmas.List.{length-append, length-map}
use Rattle.jsp_types.specs.declared.class.Class.{Class}
use Rattle.jsp_types.specs.declared.value.Value.{Value}
use Rattle.jsp_types.specs.declared.entry.Template.{Template}
use Rattle.jsp_types.specs.declared.entry.Template.TheVariants.{Any, Like}
use Rattle.jsp_types.specs.Matching.{matches}
use Rattle.jsp_model.specs.declared.state.Row.{Row}
use Rattle.jsp_model.specs.declared.state.Blocked.{Blocked}
use Rattle.jsp_model.specs.Lookup.{is_caller}
use Rattle.jsp_sight.specs.Rows.{wanted}
use Rattle.jsp_table.specs.Numbers.{contains}
use Rattle.jsp_table.proofs.Rising.{or_cases}
use Rattle.jsp_keyed.specs.Finding.{is_sought}
use Rattle.jsp_keys.specs.Keys.{several_key, transaction_key}
use Rattle.jsp_keys.specs.Templates.{values_asked, like_keys, template_keys, keys_of_all, seeks}
use Rattle.jsp_keyed.proofs.Walking.{and_both, eqb_eq}
use Rattle.jsp_keyed.proofs.Sought.{or_second, has_first, has_later}
use Rattle.jsp_keyed.proofs.Seeking.{among_templates, seeks_among}
use Rattle.jsp_keys.proofs.Values.{few_asked}
use Rattle.jsp_wait.specs.Sought.{under_key, caller_keys, held_keys, request_keys}

-- ---- under what it was asked

-- what is among the first or the last is among both
in_first : (keys more : List ℕ) (k : ℕ) → contains keys k ≡ true → contains (keys ++ more) k ≡ true
in_first [] more k h = absurd (cc)
in_first (m ∷ keys) more k h = elim (or_cases (m == k) (contains keys k) h) [
  | inl e ↦ rw e refl
  | inr e ↦ or_second (m == k) (contains (keys ++ more) k) (in_first keys more k e)
]

in_last : (keys more : List ℕ) (k : ℕ) → contains more k ≡ true → contains (keys ++ more) k ≡ true
in_last [] more k h = h
in_last (m ∷ keys) more k h = has_later (keys ++ more) k m (in_last keys more k h)

caller_has : (seed x space : ℕ) (c : Option ℕ) → is_caller c x ≡ true → contains (option_map_or (λ y. transaction_key seed y ∷ under_key seed space ∷ []) c []) (transaction_key seed x) ≡ true
caller_has seed x space None h = absurd (cc)
caller_has seed x space (Some y) h = has_first (under_key seed space ∷ []) (transaction_key seed x) (transaction_key seed y) (ap (transaction_key seed) (eqb_eq y x h))

under_it : (seed x : ℕ) (b : Blocked) → is_caller b.transaction x ≡ true → contains (request_keys seed b) (transaction_key seed x) ≡ true
under_it seed x b h =
    in_first (caller_keys seed b) (held_keys seed b ++ keys_of_all seed b.space b.templates) (transaction_key seed x) (caller_has seed x b.space b.transaction h)

pub of_transactions : (seed : ℕ) (xs : List ℕ) (b : Blocked) → list_any (is_caller b.transaction) xs ≡ true → is_sought (map (transaction_key seed) xs) (request_keys seed b) ≡ true
of_transactions seed [] b h = absurd (cc)
of_transactions seed (x ∷ xs) b h = elim (or_cases (is_caller b.transaction x) (list_any (is_caller b.transaction) xs) h) [
  | inl e ↦ rw (under_it seed x b e) refl
  | inr e ↦ or_second (contains (request_keys seed b) (transaction_key seed x)) (list_any (contains (request_keys seed b)) (map (transaction_key seed) xs)) (of_transactions seed xs b e)
]

-- ---- who asks for a row

pub asked_for : (seed : ℕ) (classes : List Class) (b : Blocked) (row : Row) → wanted classes b row ≡ true → seeks seed classes row.space row.entry (request_keys seed b) ≡ true
asked_for seed classes b row h =
    let two = and_both (row.space == b.space) (list_any (λ t. matches classes t row.entry) b.templates) h in
    let keys = λ (s : ℕ). keys_of_all seed s b.templates in
    let there : seeks seed classes row.space row.entry (keys b.space) ≡ true = subst (λ (s : ℕ). seeks seed classes row.space row.entry (keys s) ≡ true) (eqb_eq row.space b.space two.0) (among_templates seed classes row.space row.entry b.templates two.1) in
    seeks_among seed classes row.space row.entry (keys b.space) (request_keys seed b)
    (λ k e. in_last (caller_keys seed b) (held_keys seed b ++ keys b.space) k (in_last (held_keys seed b) (keys b.space) k e)) there

-- ---- how many keys there are

few_of : (seed space : ℕ) (class : List ℕ) (values : List (List ℕ × Value)) → length values ≤ 4 → length (like_keys seed space class values) ≤ 5
few_of seed space class [] few = omega arith
few_of seed space class (v ∷ []) few = omega arith
few_of seed space class (v ∷ w ∷ values) few =
    let n = length (v ∷ w ∷ values) in
    omega (arith, few, length-map values (λ (f : List ℕ × Value). several_key seed n space f.0 f.1))

few_keys : (seed space : ℕ) (t : Template) → length (template_keys seed space t) ≤ 5
few_keys seed space Any = omega arith
few_keys seed space (Like t) = few_of seed space t.class (values_asked t.fields) (few_asked t.fields)

pub keys_few : (seed space : ℕ) (ts : List Template) → length (keys_of_all seed space ts) ≤ 5 * length ts
keys_few seed space [] = omega arith
keys_few seed space (t ∷ ts) = omega (arith, length-append (template_keys seed space t) (keys_of_all seed space ts), few_keys seed space t, keys_few seed space ts)
