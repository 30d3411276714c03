-- Why entries and templates are refused, one by one and all together.
use Rattle.std.proofs.Common.{◌≡◌, ℕ, zero, suc, ◌<◌, Bool, true, false, List, [], ◌∷◌, length, Option, Some, None, refl, ap, sym, ◌∙◌, arith}
use Rattle.std.specs.Prelude.{◌||◌, filter_map, slice_index_or}
use Rattle.std.specs.List.{list_any}
use Rattle.std.specs.Option.{option_map_or}
use Rattle.jsp_types.specs.declared.class.Class.{Class}
use Rattle.jsp_types.specs.declared.entry.Raw.{Raw}
use Rattle.jsp_types.specs.Tests.{first_that}
use Rattle.jsp_types.specs.Matching.{is_unknown, is_bad, template_fault}
use Rattle.jsp_reply.specs.declared.refusal.Refusal.{Refusal}
use Rattle.jsp_reply.specs.declared.refusal.Refusal.TheVariants.{UnknownClass, BadEntry}
use Rattle.jsp_model.specs.declared.state.State.{State}
use Rattle.jsp_model.specs.Refusals.{template_tests}
use Rattle.jsp_state.specs.Fitting.{AllFit}

pub any_or : {X : Type 0} (p q : X → Bool) (xs : List X) → list_any (λ x. p x || q x) xs ≡ (list_any p xs || list_any q xs)
any_or p q [] = refl
any_or p q (x ∷ xs) = ap (λ w. (p x || q x) || w) (any_or p q xs) ∙ swapped (p x) (q x) (list_any p xs) (list_any q xs)
  where
    swapped : (a b c d : Bool) → ((a || b) || (c || d)) ≡ ((a || c) || (b || d))
    swapped true b c d = refl
    swapped false true true d = refl
    swapped false true false d = refl
    swapped false false c d = refl

-- of those that are given
pub any_given : {X : Type 0} (p : X → Bool) (xs : List (Option X)) → list_any p (filter_map (λ t. t) xs) ≡ list_any (λ t. option_map_or p t false) xs
any_given p [] = refl
any_given p (None ∷ xs) = any_given p xs
any_given p (Some x ∷ xs) = ap (λ w. p x || w) (any_given p xs)

pub either_given : {X : Type 0} (p q : X → Bool) (xs : List (Option X)) → list_any (λ t. option_map_or (λ x. p x || q x) t false) xs ≡ (list_any p (filter_map (λ t. t) xs) || list_any q (filter_map (λ t. t) xs))
either_given p q xs = sym (any_given (λ x. p x || q x) xs) ∙ any_or p q (filter_map (λ t. t) xs)

abbrev pub fault_tests : Bool → Bool → Option Refusal
fault_tests unknown bad = first_that ((unknown, UnknownClass) ∷ (bad, BadEntry) ∷ [])

pub lacks_class : (unknown bad : Bool) → unknown ≡ true → Some UnknownClass ≡ fault_tests unknown bad
lacks_class unknown bad is = rw is refl

pub has_fault : (unknown bad : Bool) → unknown ≡ false → (unknown || bad) ≡ true → Some BadEntry ≡ fault_tests unknown bad
has_fault true bad not either = cc (not)
has_fault false true not either = refl
has_fault false false not either = cc (either)

pub has_none : (unknown bad : Bool) → (unknown || bad) ≡ false → None ≡ fault_tests unknown bad
has_none true bad either = cc (either)
has_none false true either = cc (either)
has_none false false either = refl

-- ---- templates that aren't refused

head_fits : (classes : List Class) (t : Option Raw) → option_map_or (is_unknown classes) t false ≡ false → option_map_or (is_bad classes) t false ≡ false → template_fault classes t ≡ None
head_fits classes None known good = refl
head_fits classes (Some raw) known good = rw (known, good) refl

or_false : (a b : Bool) → (a || b) ≡ false → (a ≡ false) × (b ≡ false)
or_false true b h = cc (h)
or_false false b h = (refl, h)

each_fits : (classes : List Class) (ts : List (Option Raw)) (k : ℕ) (d : Option Raw) → list_any (λ t. option_map_or (is_unknown classes) t false) ts ≡ false → list_any (λ t. option_map_or (is_bad classes) t false) ts ≡ false → k < length ts → template_fault classes (slice_index_or ts k d) ≡ None
each_fits classes [] k d known good lt = absurd (omega (arith, lt))
each_fits classes (t ∷ ts) zero d known good lt = head_fits classes t (or_false _ _ known).0 (or_false _ _ good).0
each_fits classes (t ∷ ts) (suc k) d known good lt = each_fits classes ts k d (or_false _ _ known).1 (or_false _ _ good).1 (omega (arith, lt))

neither : (unknown bad : Bool) → fault_tests unknown bad ≡ None → (unknown ≡ false) × (bad ≡ false)
neither true bad h = cc (h)
neither false true h = cc (h)
neither false false h = (refl, refl)

pub all_fit : (st : State) (ts : List (Option Raw)) → first_that (template_tests st ts) ≡ None → AllFit st.classes ts
all_fit st ts h =
    let given = filter_map (λ t. t) ts in
    let good = neither (list_any (is_unknown st.classes) given) (list_any (is_bad st.classes) given) h in
    λ k d lt. each_fits st.classes ts k d (sym (any_given (is_unknown st.classes) ts) ∙ good.0) (sym (any_given (is_bad st.classes) ts) ∙ good.1) lt
