-- What is named under enough keys is named under one whose list isn't passed over.
use Rattle.std.proofs.Common.{◌≡◌, ℕ, suc, ◌<◌, ◌≤◌, Bool, true, false, not, cond, ◌&&◌, ◌||◌, nat_lt, List, [], ◌∷◌, length, map, Option, Some, None, refl, ap, sym, ◌∙◌, subst, arith, inl, inr}
use Rattle.std.specs.Prelude.{filter, nat_le, Result, Ok, Err, OnOk}
use Rattle.std.specs.List.{AllByRecursion, list_any}
use Rattle.std.specs.Option.{option_map_or}
use Rattle.std.proofs.lemmas.Bool.Decides.{nat_tests}
use Rattle.jsp_types.specs.declared.value.Value.{Value}
use Rattle.jsp_types.specs.declared.class.Class.{Class}
use Rattle.jsp_types.specs.declared.entry.Entry.{Entry}
use Rattle.jsp_table.specs.Numbers.{contains}
use Rattle.jsp_table.proofs.Rising.{or_cases}
use Rattle.jsp_keys.specs.Keys.{mix, several_key, count_key}
use Rattle.jsp_keys.specs.Templates.{entry_keys, value_keys, several_keys, seeks_several, seeks}
use Rattle.jsp_keyed.specs.Several.{length_under, is_longer, looked_under, keys_looked_under, are_named, is_named_for}
use Rattle.jsp_keyed.specs.Kept.{IsNamed}
use Rattle.jsp_keyed.proofs.Walking.{and_both}
use Rattle.jsp_keyed.proofs.Sought.{or_second}
use Rattle.jsp_keyed.proofs.Named.{named_under, sought_named}
use Rattle.jsp_table.specs.Hints.{list_of, names}
use Rattle.jsp_table.specs.declared.hints.Hints.{Hints}

pub up_to : (a b : ℕ) → nat_le a b ≡ true → a ≤ b
up_to a b h = grind (arith, nat_tests)

pub at_most : (a b : ℕ) → a ≤ b → nat_le a b ≡ true
at_most a b h = grind (arith, nat_tests)

pub or_none : (b : Bool) → (b || false) ≡ true → b ≡ true
or_none true h = refl
or_none false h = absurd (cc)

pub on_ok : {X E : Type 0} (r : Result X E) (P Q : Type 0) → (P → Q) → OnOk r P → OnOk r Q
on_ok (Ok x) P Q f h = f h
on_ok (Err e) P Q f h = tt

pub four_parts : {T : Type 0} (xs : List T) (P Q R S U : T → Type 0) → AllByRecursion P xs → AllByRecursion Q xs → AllByRecursion R xs → AllByRecursion S xs → ((x : T) → P x → Q x → R x → S x → U x) → AllByRecursion U xs
four_parts [] P Q R S U p q r s f = tt
four_parts (x ∷ xs) P Q R S U p q r s f = (f x p.0 q.0 r.0 s.0, four_parts xs P Q R S U p.1 q.1 r.1 s.1 f)

-- ---- lists of which more pass

pub any_where : {X : Type 0} (p q : X → Bool) (xs : List X) → ((x : X) → p x ≡ true → q x ≡ true) → list_any p xs ≡ true → list_any q xs ≡ true
any_where p q [] more h = absurd (cc)
any_where p q (x ∷ xs) more h = elim (or_cases (p x) (list_any p xs) h) [
  | inl e ↦ rw (more x e) refl
  | inr e ↦ or_second (q x) (list_any q xs) (any_where p q xs more e)
]

pub more_pass : {X : Type 0} (p q : X → Bool) (xs : List X) → ((x : X) → p x ≡ true → q x ≡ true) → length (filter p xs) ≤ length (filter q xs)
more_pass p q [] more = omega arith
more_pass p q (x ∷ xs) more = at (p x) (q x) (more x) (more_pass p q xs more) where
  at : (b c : Bool) → (b ≡ true → c ≡ true) → length (filter p xs) ≤ length (filter q xs) → length (cond b (x ∷ filter p xs) (filter p xs)) ≤ length (cond c (x ∷ filter q xs) (filter q xs))
  at true true f rest = omega (arith, rest)
  at true false f rest = absurd (cc (f refl))
  at false true f rest = omega (arith, rest)
  at false false f rest = rest

-- of more that pass than fail, one doesn't
enough_left : (p q : ℕ → Bool) (ks : List ℕ) → length (filter q ks) < length (filter p ks) → list_any (λ k. p k && not (q k)) ks ≡ true
enough_left p q [] lt = absurd (omega (arith, lt))
enough_left p q (k ∷ ks) lt = at (p k) (q k) (enough_left p q ks) lt where
  at : (b c : Bool) → (length (filter q ks) < length (filter p ks) → list_any (λ k. p k && not (q k)) ks ≡ true)
      → length (cond c (k ∷ filter q ks) (filter q ks)) < length (cond b (k ∷ filter p ks) (filter p ks)) → ((b && not c) || list_any (λ k. p k && not (q k)) ks) ≡ true
  at true false rest lt = refl
  at true true rest lt = rest (omega (arith, lt))
  at false true rest lt = rest (omega (arith, lt))
  at false false rest lt = rest lt

mixed_keys : (seed count space : ℕ) (fields : List (List ℕ × Value)) → map (λ k. mix k count) (value_keys seed space fields) ≡ several_keys seed count space fields
mixed_keys seed count space [] = refl
mixed_keys seed count space (f ∷ fields) = ap (λ ks. several_key seed count space f.0 f.1 ∷ ks) (mixed_keys seed count space fields)

pub none_fails : (ks : List ℕ) → filter (λ k. false) ks ≡ []
none_fails [] = refl
none_fails (k ∷ ks) = none_fails ks

module _ (hints : Hints) where
  -- ---- what isn't passed over

  pub none_under : (key n : ℕ) → nat_lt 0 (length_under hints key) ≡ false → names hints key n ≡ false
  none_under key n none = at (list_of hints key) none where
    some : (m : ℕ) → nat_lt 0 (suc m) ≡ true
    some m = grind (arith, nat_tests)

    at : (o : Option (List ℕ)) → nat_lt 0 (option_map_or length o 0) ≡ false → option_map_or (λ ns. contains ns n) o false ≡ false
    at None e = refl
    at (Some []) e = refl
    at (Some (m ∷ ms)) e = absurd (cc (e, some (length ms)))

  looked : (limit : Option ℕ) (n : ℕ) (ks : List ℕ) → list_any (λ k. names hints k n && not (is_longer hints limit k)) ks ≡ true → list_any (λ k. names hints k n) (map (looked_under hints limit) ks) ≡ true
  looked limit n [] h = absurd (cc)
  looked limit n (k ∷ ks) h = at (is_longer hints limit k) (looked limit n ks) h where
    left : List ℕ
    left = map (looked_under hints limit) ks

    short : ℕ → Bool
    short k = names hints k n && not (is_longer hints limit k)

    at : (b : Bool) → (list_any short ks ≡ true → list_any (λ k. names hints k n) left ≡ true) → ((names hints k n && not b) || list_any short ks) ≡ true
        → (names hints (cond b 0 k) n || list_any (λ k. names hints k n) left) ≡ true
    at true rest h = elim (or_cases (names hints k n && false) (list_any short ks) h) [
      | inl f ↦ absurd (cc ((and_both (names hints k n) false f).1))
      | inr f ↦ or_second (names hints 0 n) (list_any (λ k. names hints k n) left) (rest f)
    ]
    at false rest h = elim (or_cases (names hints k n && true) (list_any short ks) h) [
      | inl f ↦ rw ((and_both (names hints k n) true f).0) refl
      | inr f ↦ or_second (names hints k n) (list_any (λ k. names hints k n) left) (rest f)
    ]

  -- what asks for so many values is named under a key that is looked under
  pub still_found : (limit : Option ℕ) (seed count space : ℕ) (fields : List (List ℕ × Value)) (n : ℕ) → length (filter (is_longer hints limit) (several_keys seed count space fields)) < count
      → are_named hints seed space fields n count ≡ true → list_any (λ k. names hints k n) (keys_looked_under hints limit seed count space fields) ≡ true
  still_found limit seed count space fields n few h =
      let keys = several_keys seed count space fields in
      let named = λ (k : ℕ). names hints k n in
      let enough = up_to count (length (filter named keys)) (and_both (names hints (count_key seed count space) n) (nat_le count (length (filter named keys))) h).1 in
      looked limit n keys (enough_left named (is_longer hints limit) keys (below few enough)) where
        below : {a b c : ℕ} → a < b → b ≤ c → a < c
        below f g = omega arith

  -- so it is where the keys are made from those of the values
  pub found_in_lists : (limit : Option ℕ) (seed count space : ℕ) (fields : List (List ℕ × Value)) (n : ℕ) (listed : Hints) (many : ℕ) (values : List ℕ) → listed ≡ hints → many ≡ count → values ≡ value_keys seed space fields
      → length (filter (is_longer listed limit) (map (λ k. mix k many) values)) < many → are_named hints seed space fields n count ≡ true → list_any (λ k. names hints k n) (map (looked_under listed limit) (map (λ k. mix k many) values)) ≡ true
  found_in_lists limit seed count space fields n listed many values is_hints is_count is_values few h =
      let keys = several_keys seed count space fields in
      let made : map (λ k. mix k many) values ≡ keys = ap (λ (m : ℕ). map (λ k. mix k m) values) is_count ∙ (ap (map (λ k. mix k count)) is_values ∙ mixed_keys seed count space fields) in
      let fewer = subst (λ (m : ℕ). length (filter (is_longer hints limit) keys) < m) is_count
      (subst (λ (w : Hints). length (filter (is_longer w limit) keys) < many) is_hints (subst (λ (ks : List ℕ). length (filter (is_longer listed limit) ks) < many) made few)) in
      subst (λ (ks : List ℕ). list_any (λ k. names hints k n) (map (looked_under listed limit) ks) ≡ true) (sym made)
      (subst (λ (w : Hints). list_any (λ k. names hints k n) (map (looked_under w limit) keys) ≡ true) (sym is_hints) (still_found limit seed count space fields n fewer h))

  pub not_named : (seed space : ℕ) (fields : List (List ℕ × Value)) (n count : ℕ) → nat_lt 0 (length_under hints (count_key seed count space)) ≡ false → are_named hints seed space fields n count ≡ false
  not_named seed space fields n count none = rw (none_under (count_key seed count space) n none) refl

  -- ---- what has the keys is named

  named_for_several : (seed space : ℕ) (fields : List (List ℕ × Value)) (n : ℕ) (keys : List ℕ) → IsNamed hints n keys → (count : ℕ) → seeks_several seed space fields keys count ≡ true → are_named hints seed space fields n count ≡ true
  named_for_several seed space fields n keys named count h =
      let sought = several_keys seed count space fields in
      let two = and_both (contains keys (count_key seed count space)) (nat_le count (length (filter (contains keys) sought))) h in
      let more = more_pass (contains keys) (λ k. names hints k n) sought (λ k e. named_under hints n keys k named e) in
      rw (named_under hints n keys (count_key seed count space) named two.0) (at_most count (length (filter (λ k. names hints k n) sought)) (over (up_to count (length (filter (contains keys) sought)) two.1) more)) where
        over : {a b c : ℕ} → a ≤ b → b ≤ c → a ≤ c
        over f g = omega arith

  pub named_for : (seed : ℕ) (classes : List Class) (space : ℕ) (e : Entry) (n : ℕ) (keys : List ℕ) → IsNamed hints n keys → seeks seed classes space e keys ≡ true → is_named_for hints seed classes space e n ≡ true
  named_for seed classes space e n keys named h =
      let sought = entry_keys seed classes space e in
      let several = 2 ∷ 3 ∷ 4 ∷ [] in
      elim (or_cases (list_any (contains keys) sought) (list_any (seeks_several seed space e.fields keys) several) h) [
        | inl f ↦ rw (sought_named hints n keys sought named f) refl
        | inr f ↦ or_second (list_any (λ k. names hints k n) sought) (list_any (are_named hints seed space e.fields n) several)
            (any_where (seeks_several seed space e.fields keys) (are_named hints seed space e.fields n) several (λ count g. named_for_several seed space e.fields n keys named count g) f)
      ]
