-- What is asked of registrations, of which some haven't heard what commits tell.
use Rattle.std.proofs.Common.{◌≡◌, ℕ, zero, suc, Bool, true, false, not, cond, eqb, ◌&&◌, List, [], ◌∷◌, length, map, Option, Some, None, option_map, refl, ap, sym, ◌∙◌, arith}
use Rattle.std.specs.Prelude.{filter, find, nat_lt, is_none, is_some, ◌==◌, ◌||◌, IfSome, IfNone}
use Rattle.std.specs.List.{list_all, list_any}
use Rattle.std.specs.Option.{option_map_or}
use Rattle.std.proofs.lemmas.List.{length-map}
use Rattle.std.proofs.lemmas.List.Folds.{list_all-map}
use Rattle.std.proofs.lemmas.Bool.{and_parts, and_from, eqb-true, eq-eqb, or_left, or_right}
use Rattle.jsp_model.specs.declared.state.Registration.{Registration}
use Rattle.jsp_notify.specs.declared.news.News.{News}
use Rattle.jsp_notify.specs.News.{hearing, numbers_untold, without_owed}
use Rattle.jsp_notify.specs.Registered.{registration_end, registration_ending}
use Rattle.jsp_notify.proofs.Owed.{same_lists}
use Rattle.std.proofs.lemmas.Bool.Decides.{nat_tests}
use Rattle.std.proofs.Math.Bool.{and-false}
use Rattle.jsp_notify.proofs.Hearing.{any_after, no_length, not_zero, filter_after, find_after, map_after}

-- those that don't pass go
pub left_out : (news : List News) (p : Registration → Bool) → ((owed : List ℕ) (r : Registration) → p (record r { owed = owed }) ≡ p r) → (rs : List Registration)
    → map (hearing news) (filter p rs) ≡ filter p (map (hearing news) rs)
left_out news p same [] = refl
left_out news p same (r ∷ rs) = rw (same (hearing news r).owed r) (at (p r) (left_out news p same rs)) where
  at : (b : Bool) → map (hearing news) (filter p rs) ≡ filter p (map (hearing news) rs)
      → map (hearing news) (cond b (r ∷ filter p rs) (filter p rs)) ≡ cond b (hearing news r ∷ filter p (map (hearing news) rs)) (filter p (map (hearing news) rs))
  at true e = ap (λ ys. hearing news r ∷ ys) e
  at false e = e

-- one ends then
pub ending_after : (news : List News) (n end : ℕ) (rs : List Registration) → map (hearing news) (map (registration_ending n end) rs) ≡ map (registration_ending n end) (map (hearing news) rs)
ending_after news n end [] = refl
ending_after news n end (r ∷ rs) = same_lists (at (eqb r.number n)) (ending_after news n end rs) where
  at : (b : Bool) → hearing news (cond b (record r { end = end }) r) ≡ cond b (record (hearing news r) { end = end }) (hearing news r)
  at true = refl
  at false = refl

pub found_after : (news : List News) (n : ℕ) (rs : List Registration) → option_map without_owed (find (λ r. r.number == n) rs) ≡ option_map without_owed (find (λ r. r.number == n) (map (hearing news) rs))
found_after news n rs =
    let same : (o : Option Registration) → option_map without_owed o ≡ option_map without_owed (option_map (hearing news) o) =
    λ o. elim o as (λ o. option_map without_owed o ≡ option_map without_owed (option_map (hearing news) o)) [ None ↦ refl | Some r ↦ refl ] in
    same (find (λ r. r.number == n) rs) ∙ ap (option_map without_owed) (sym (find_after (hearing news) (λ (r : Registration). r.number == n) rs))

pub passing_after : (news : List News) (n : ℕ) (q : Registration → Bool) → ((owed : List ℕ) (r : Registration) → q (record r { owed = owed }) ≡ q r) → (rs : List Registration)
    → list_any (λ r. r.number == n && q r) rs ≡ list_any (λ r. r.number == n && q r) (map (hearing news) rs)
passing_after news n q same [] = refl
passing_after news n q same (r ∷ rs) = rw (same (hearing news r).owed r) (ap (λ b. (r.number == n && q r) || b) (passing_after news n q same rs))

some_left : (n : ℕ) → not (n == 0) ≡ nat_lt 0 n
some_left zero = refl
some_left (suc n) = ap not (not_zero n) ∙ sym (more n) where
  more : (n : ℕ) → nat_lt 0 (suc n) ≡ true
  more n = grind (arith, nat_tests)

pub is_owed_after : (news : List News) (n : ℕ) (rs : List Registration)
    → option_map_or (λ r. not (length (hearing news r).owed == 0)) (find (λ r. r.number == n) rs) false ≡ option_map_or (λ r. nat_lt 0 (length r.owed)) (find (λ r. r.number == n) (map (hearing news) rs)) false
is_owed_after news n rs =
    let owed = λ (r : Registration). nat_lt 0 (length r.owed) in
    let same : (o : Option Registration) → option_map_or (λ r. not (length (hearing news r).owed == 0)) o false ≡ option_map_or owed (option_map (hearing news) o) false =
    λ o. elim o as (λ o. option_map_or (λ r. not (length (hearing news r).owed == 0)) o false ≡ option_map_or owed (option_map (hearing news) o) false) [ None ↦ refl | Some r ↦ some_left (length (hearing news r).owed) ] in
    same (find (λ r. r.number == n) rs) ∙ ap (λ o. option_map_or owed o false) (sym (find_after (hearing news) (λ (r : Registration). r.number == n) rs))

-- ---- one that is owed an event

found_any : (p : Registration → Bool) (rs : List Registration) (n : ℕ) → option_map (λ (r : Registration). r.number) (find p rs) ≡ Some n → list_any (λ r. r.number == n && p r) rs ≡ true
found_any p [] n found = absurd (cc found)
found_any p (r ∷ rs) n found = at (p r) refl found (found_any p rs n) where
  at : (b : Bool) → p r ≡ b → option_map (λ (r : Registration). r.number) (cond b (Some r) (find p rs)) ≡ Some n
      → (option_map (λ (r : Registration). r.number) (find p rs) ≡ Some n → list_any (λ r. r.number == n && p r) rs ≡ true)
      → ((r.number == n && p r) || list_any (λ r. r.number == n && p r) rs) ≡ true
  at true e f later =
      let same : r.number ≡ n = cc f in
      or_left (r.number == n && p r) (list_any (λ r. r.number == n && p r) rs) (and_from (r.number == n) (p r) (eq-eqb r.number n same) e)
  at false e f later = or_right (r.number == n && p r) (list_any (λ r. r.number == n && p r) rs) (later f)

none_any : (space : ℕ) (owed : Registration → Bool) (rs : List Registration) → option_map (λ (r : Registration). r.number) (find (λ r. r.space == space && not (owed r)) rs) ≡ None
    → list_all (λ r. not (r.space == space) || owed r) rs ≡ true
none_any space owed [] none = refl
none_any space owed (r ∷ rs) none = at (r.space == space && not (owed r)) refl none (none_any space owed rs) where
  shape : (a b : Bool) → (a && not b) ≡ false → (not a || b) ≡ true
  shape true true h = refl
  shape true false h = absurd (cc h)
  shape false b h = refl

  at : (b : Bool) → (r.space == space && not (owed r)) ≡ b → option_map (λ (r : Registration). r.number) (cond b (Some r) (find (λ r. r.space == space && not (owed r)) rs)) ≡ None
      → (option_map (λ (r : Registration). r.number) (find (λ r. r.space == space && not (owed r)) rs) ≡ None → list_all (λ r. not (r.space == space) || owed r) rs ≡ true)
      → ((not (r.space == space) || owed r) && list_all (λ r. not (r.space == space) || owed r) rs) ≡ true
  at true e f later = absurd (cc f)
  at false e f later = and_from (not (r.space == space) || owed r) (list_all (λ r. not (r.space == space) || owed r) rs) (shape (r.space == space) (owed r) e) (later f)

any_more : (p q : Registration → Bool) → ((r : Registration) → p r ≡ true → q r ≡ true) → (rs : List Registration) → list_any p rs ≡ true → list_any q rs ≡ true
any_more p q more [] some = some
any_more p q more (r ∷ rs) some = at (p r) refl some (any_more p q more rs) where
  at : (b : Bool) → p r ≡ b → (b || list_any p rs) ≡ true → (list_any p rs ≡ true → list_any q rs ≡ true) → (q r || list_any q rs) ≡ true
  at true e h later = or_left (q r) (list_any q rs) (more r e)
  at false e h later = or_right (q r) (list_any q rs) (later h)

all_more : (p q : Registration → Bool) → ((r : Registration) → p r ≡ true → q r ≡ true) → (rs : List Registration) → list_all p rs ≡ true → list_all q rs ≡ true
all_more p q more [] all = refl
all_more p q more (r ∷ rs) all =
    let parts = and_parts (p r) (list_all p rs) all in
    and_from (q r) (list_all q rs) (more r parts.0) (all_more p q more rs parts.1)

-- one that has heard of what it is owed
pub heard_of : (news : List News) (space n : ℕ) (rs : List Registration)
    → option_map (λ (r : Registration). r.number) (find (λ r. r.space == space && not (length r.owed == 0)) rs) ≡ Some n
    → list_any (λ r. r.number == n && (r.space == space && not (length r.owed == 0))) (map (hearing news) rs) ≡ true
heard_of news space n rs found =
    let owed = λ (r : Registration). r.space == space && not (length r.owed == 0) in
    any_after (hearing news) (λ r. r.number == n && owed r) rs
    ∙ any_more (λ r. r.number == n && owed r) (λ r. r.number == n && owed (hearing news r)) still rs (found_any owed rs n found)
  where
    kept : (a b c d : Bool) → (a && (b && not c)) ≡ true → (a && (b && not (c && d))) ≡ true
    kept true true false d h = refl
    kept true true true d h = absurd (cc h)
    kept true false c d h = absurd (cc h)
    kept false b c d h = absurd (cc h)

    still : (r : Registration) → (r.number == n && (r.space == space && not (length r.owed == 0))) ≡ true → (r.number == n && (r.space == space && not (length (hearing news r).owed == 0))) ≡ true
    still r h = ap (λ b. r.number == n && (r.space == space && not b)) (no_length r.owed (numbers_untold news r)) ∙ kept (r.number == n) (r.space == space) (length r.owed == 0) (length (numbers_untold news r) == 0) h

-- where all is told there is none that isn't found so
pub none_heard_of : (news : List News) (space : ℕ) (rs : List Registration) → ((r : Registration) → r.space ≡ space → hearing news r ≡ r)
    → option_map (λ (r : Registration). r.number) (find (λ r. r.space == space && not (length r.owed == 0)) rs) ≡ None
    → list_all (λ r. not (r.space == space) || length r.owed == 0) (map (hearing news) rs) ≡ true
none_heard_of news space rs heard none =
    list_all-map (λ (r : Registration). not (r.space == space) || length r.owed == 0) (hearing news) rs
    ∙ all_more (λ r. not (r.space == space) || length r.owed == 0) (λ r. not (r.space == space) || length (hearing news r).owed == 0) still rs
    (none_any space (λ r. length r.owed == 0) rs none)
  where
    still : (r : Registration) → (not (r.space == space) || length r.owed == 0) ≡ true → (not (r.space == space) || length (hearing news r).owed == 0) ≡ true
    still r h = at (eqb r.space space) refl h where
      at : (b : Bool) → (r.space == space) ≡ b → (not b || length r.owed == 0) ≡ true → (not (r.space == space) || length (hearing news r).owed == 0) ≡ true
      at true e k = ap (λ b. not b || length (hearing news r).owed == 0) e ∙ (ap (λ (q : Registration). length q.owed == 0) (heard r (eqb-true r.space space e)) ∙ k)
      at false e k = ap (λ b. not b || length (hearing news r).owed == 0) e

-- one that will have heard
pub to_hear_of : (news : List News) (space n : ℕ) (rs : List Registration)
    → option_map (λ (r : Registration). r.number) (find (λ r. r.space == space && not (length (hearing news r).owed == 0)) rs) ≡ Some n
    → list_any (λ r. r.number == n && (r.space == space && not (length r.owed == 0))) (map (hearing news) rs) ≡ true
to_hear_of news space n rs found =
    any_after (hearing news) (λ r. r.number == n && (r.space == space && not (length r.owed == 0))) rs
    ∙ found_any (λ r. r.space == space && not (length (hearing news r).owed == 0)) rs n found

pub none_to_hear_of : (news : List News) (space : ℕ) (rs : List Registration)
    → option_map (λ (r : Registration). r.number) (find (λ r. r.space == space && not (length (hearing news r).owed == 0)) rs) ≡ None
    → list_all (λ r. not (r.space == space) || length r.owed == 0) (map (hearing news) rs) ≡ true
none_to_hear_of news space rs none =
    list_all-map (λ (r : Registration). not (r.space == space) || length r.owed == 0) (hearing news) rs
    ∙ none_any space (λ r. length (hearing news r).owed == 0) rs none

-- one is named, or all are told
not_all : (space n : ℕ) (rs : List Registration) → list_any (λ r. r.number == n && (r.space == space && not (length r.owed == 0))) rs ≡ true
    → list_all (λ r. not (r.space == space) || length r.owed == 0) rs ≡ false
not_all space n [] some = absurd (cc some)
not_all space n (r ∷ rs) some = at (r.number == n && (r.space == space && not (length r.owed == 0))) refl some (not_all space n rs) where
  shape : (a b c : Bool) → (a && (b && not c)) ≡ true → (not b || c) ≡ false
  shape true true false h = refl
  shape true true true h = absurd (cc h)
  shape true false c h = absurd (cc h)
  shape false b c h = absurd (cc h)

  at : (b : Bool) → (r.number == n && (r.space == space && not (length r.owed == 0))) ≡ b → (b || list_any (λ r. r.number == n && (r.space == space && not (length r.owed == 0))) rs) ≡ true
      → (list_any (λ r. r.number == n && (r.space == space && not (length r.owed == 0))) rs ≡ true → list_all (λ r. not (r.space == space) || length r.owed == 0) rs ≡ false)
      → ((not (r.space == space) || length r.owed == 0) && list_all (λ r. not (r.space == space) || length r.owed == 0) rs) ≡ false
  at true e h later = ap (λ b. b && list_all (λ r. not (r.space == space) || length r.owed == 0) rs) (shape (r.number == n) (r.space == space) (length r.owed == 0) e)
  at false e h later = ap (λ b. (not (r.space == space) || length r.owed == 0) && b) (later h) ∙ and-false (not (r.space == space) || length r.owed == 0)

pub owed_or_not : (space : ℕ) (rs : List Registration) (o : Option ℕ)
    → IfSome o (λ n. list_any (λ r. r.number == n && (r.space == space && not (length r.owed == 0))) rs ≡ true)
    → IfNone o (list_all (λ r. not (r.space == space) || length r.owed == 0) rs ≡ true)
    → is_none o ≡ list_all (λ r. not (r.space == space) || length r.owed == 0) rs
owed_or_not space rs None some none = sym none
owed_or_not space rs (Some n) some none = sym (not_all space n rs some)

pub spaces_after : (news : List News) (n : ℕ) (rs : List Registration)
    → map (λ (r : Registration). r.space) (filter (λ r. r.number == n) rs) ≡ map (λ (r : Registration). r.space) (filter (λ r. r.number == n) (map (hearing news) rs))
spaces_after news n rs =
    sym (ap (map (λ (r : Registration). r.space)) (filter_after (hearing news) (λ (r : Registration). r.number == n) rs)
    ∙ map_after (hearing news) (λ (r : Registration). r.space) (filter (λ r. r.number == n) rs))

pub counted_after : (news : List News) (space : ℕ) (rs : List Registration) → length (filter (λ r. r.space == space) rs) ≡ length (filter (λ r. r.space == space) (map (hearing news) rs))
counted_after news space rs =
    sym (ap length (filter_after (hearing news) (λ (r : Registration). r.space == space) rs) ∙ length-map (filter (λ r. r.space == space) rs) (hearing news))

pub ends_after : (news : List News) (rs : List Registration) → map registration_end rs ≡ map registration_end (map (hearing news) rs)
ends_after news rs = sym (map_after (hearing news) registration_end rs)

pub first_of_some : (o : Option ℕ) (P : ℕ → Type 0) → ((n : ℕ) → o ≡ Some n → P n) → IfSome o P
first_of_some None P some = tt
first_of_some (Some n) P some = some n refl

pub none_of_none : (o : Option ℕ) (P : Type 0) → is_some o ≡ true → IfNone o P
none_of_none None P some = absurd (cc some)
none_of_none (Some n) P some = tt

pub if_none : (o : Option ℕ) (P : Type 0) → (o ≡ None → P) → IfNone o P
if_none None P none = none refl
if_none (Some n) P none = tt

pub not_some : (o : Option ℕ) → is_some o ≡ false → o ≡ None
not_some None e = refl
not_some (Some n) e = absurd (cc e)
