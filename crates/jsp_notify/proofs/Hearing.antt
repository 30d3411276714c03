-- Registrations that have heard what commits tell, and those that haven't.
use Rattle.std.proofs.Common.{◌≡◌, ℕ, suc, arith, ◌+◌, ◌-◌, set, true≢false, ◌<◌, Bool, true, false, not, cond, ◌&&◌, List, [], ◌∷◌, ◌++◌, length, drop, take, get_or, map, flat_map, Some, None, option_map, refl, ap, sym, ◌∙◌, append_assoc}
use Rattle.std.specs.Prelude.{filter, find, nat_lt, ◌==◌, ◌||◌}
use Rattle.std.specs.List.{list_any}
use Rattle.std.proofs.lemmas.Bool.{ne_eqb}
use Rattle.std.proofs.lemmas.Bool.Decides.{nat_tests}
use Rattle.std.proofs.lemmas.Grind.{flat_map-append}
use Rattle.std.proofs.lemmas.List.{append-nil, take-append-drop, drop-drop}
use Rattle.jsp_types.specs.declared.class.Class.{Class}
use Rattle.jsp_model.specs.declared.state.Row.{Row}
use Rattle.jsp_model.specs.declared.state.Registration.{Registration}
use Rattle.jsp_notify.specs.declared.news.News.{News}
use Rattle.jsp_table.specs.Counts.{count_of}
use Rattle.jsp_notify.specs.Owing.{is_news, numbers_of_news, owed}
use Rattle.jsp_notify.specs.News.{told_to, untold, numbers_untold, hearing}
use Rattle.jsp_notify.proofs.Owed.{same_lists, owed_parts}

-- ---- what is asked of each, asked before

pub filter_after : {X Y : Type 0} (f : X → Y) (p : Y → Bool) (xs : List X) → filter p (map f xs) ≡ map f (filter (λ x. p (f x)) xs)
filter_after f p [] = refl
filter_after f p (x ∷ xs) = at (p (f x)) (filter_after f p xs) where
  at : (b : Bool) → filter p (map f xs) ≡ map f (filter (λ x. p (f x)) xs)
      → cond b (f x ∷ filter p (map f xs)) (filter p (map f xs)) ≡ map f (cond b (x ∷ filter (λ x. p (f x)) xs) (filter (λ x. p (f x)) xs))
  at true e = ap (λ ys. f x ∷ ys) e
  at false e = e

pub find_after : {X Y : Type 0} (f : X → Y) (p : Y → Bool) (xs : List X) → find p (map f xs) ≡ option_map f (find (λ x. p (f x)) xs)
find_after f p [] = refl
find_after f p (x ∷ xs) = at (p (f x)) (find_after f p xs) where
  at : (b : Bool) → find p (map f xs) ≡ option_map f (find (λ x. p (f x)) xs)
      → cond b (Some (f x)) (find p (map f xs)) ≡ option_map f (cond b (Some x) (find (λ x. p (f x)) xs))
  at true e = refl
  at false e = e

pub any_after : {X Y : Type 0} (f : X → Y) (p : Y → Bool) (xs : List X) → list_any p (map f xs) ≡ list_any (λ x. p (f x)) xs
any_after f p [] = refl
any_after f p (x ∷ xs) = ap (λ b. p (f x) || b) (any_after f p xs)

pub map_after : {X Y Z : Type 0} (f : X → Y) (g : Y → Z) (xs : List X) → map g (map f xs) ≡ map (λ x. g (f x)) xs
map_after f g [] = refl
map_after f g (x ∷ xs) = ap (λ ys. g (f x) ∷ ys) (map_after f g xs)

pub map_same : {X Y : Type 0} (f g : X → Y) → ((x : X) → f x ≡ g x) → (xs : List X) → map f xs ≡ map g xs
map_same f g same [] = refl
map_same f g same (x ∷ xs) = same_lists (same x) (map_same f g same xs)

-- ---- hearing

pub none_heard : (r : Registration) → hearing [] r ≡ r
none_heard r = ap (λ (w : List ℕ). record r { owed = w }) (append-nil r.owed)

-- where nothing is told, all is heard
pub all_heard : (rs : List Registration) → map (hearing []) rs ≡ rs
all_heard [] = refl
all_heard (r ∷ rs) = same_lists (none_heard r) (all_heard rs)

pub heard_in_parts : (xs ys : List News) (r : Registration) → hearing (xs ++ ys) r ≡ hearing ys (hearing xs r)
heard_in_parts xs ys r =
    let told = λ (n : News). numbers_of_news n.classes n.caller (untold n r) r in
    ap (λ (w : List ℕ). record r { owed = w })
    (ap (λ (w : List ℕ). r.owed ++ w) (flat_map-append told xs ys) ∙ sym (append_assoc r.owed (flat_map told xs) (flat_map told ys)))

pub one_heard : (n : News) (r : Registration) → hearing (n ∷ []) r ≡ owed n.classes n.caller (untold n r) r
one_heard n r = ap (λ (w : List ℕ). record r { owed = r.owed ++ w }) (append-nil (numbers_of_news n.classes n.caller (untold n r) r))

-- what is recorded last is told last
below_none : (n : ℕ) → nat_lt n 0 ≡ false
below_none n = grind (arith, nat_tests)

none_told_to : (n : News) → ((space : ℕ) → count_of n.told space ≡ 0) → ((space : ℕ) → count_of n.reached space ≡ 0) → (r : Registration) → told_to n r ≡ 0
none_told_to n none unreached r =
    ap (λ (t : ℕ). t + cond (nat_lt r.number (count_of n.reached r.space)) 1 0) (none r.space)
    ∙ ap (λ (b : Bool). 0 + cond b 1 0) (ap (λ (m : ℕ). nat_lt r.number m) (unreached r.space) ∙ below_none r.number)

pub recorded : (news : List News) (n : News) → ((space : ℕ) → count_of n.told space ≡ 0) → ((space : ℕ) → count_of n.reached space ≡ 0) → (rs : List Registration)
    → map (hearing (news ++ n ∷ [])) rs ≡ map (owed n.classes n.caller n.rows) (map (hearing news) rs)
recorded news n none unreached [] = refl
recorded news n none unreached (r ∷ rs) =
    same_lists
    (heard_in_parts news (n ∷ []) r ∙ (one_heard n (hearing news r) ∙ ap (λ (k : ℕ). owed n.classes n.caller (drop k n.rows) (hearing news r)) (none_told_to n none unreached (hearing news r))))
    (recorded news n none unreached rs)

-- ---- who is owed an event after it

pub not_zero : (n : ℕ) → (suc n == 0) ≡ false
not_zero n = ne_eqb (suc n) 0 (differs n) where
  differs : (n : ℕ) → suc n ≡ 0 → ⊥
  differs n e = omega arith

pub no_length : {X : Type 0} (xs ys : List X) → (length (xs ++ ys) == 0) ≡ ((length xs == 0) && (length ys == 0))
no_length [] ys = refl
no_length (x ∷ xs) ys = not_zero (length (xs ++ ys)) ∙ ap (λ b. b && (length ys == 0)) (sym (not_zero (length xs)))

none_passes : (p : Row → Bool) (rows : List Row) → (length (map (λ (w : Row). w.number) (filter p rows)) == 0) ≡ not (list_any p rows)
none_passes p [] = refl
none_passes p (row ∷ rows) = at (p row) (none_passes p rows) where
  at : (b : Bool) → (length (map (λ (w : Row). w.number) (filter p rows)) == 0) ≡ not (list_any p rows)
      → (length (map (λ (w : Row). w.number) (cond b (row ∷ filter p rows) (filter p rows))) == 0) ≡ not (b || list_any p rows)
  at true e = not_zero (length (map (λ (w : Row). w.number) (filter p rows)))
  at false e = e

none_told : (news : List News) (r : Registration) → (length (numbers_untold news r) == 0) ≡ not (list_any (λ n. list_any (is_news n.classes n.caller r) (untold n r)) news)
none_told [] r = refl
none_told (n ∷ ns) r =
    let rest = numbers_untold ns r in
    let here = list_any (is_news n.classes n.caller r) (untold n r) in
    let there = list_any (λ n. list_any (is_news n.classes n.caller r) (untold n r)) ns in
    let both : (a b : Bool) → (not a && not b) ≡ not (a || b) = λ a b. elim a as (λ a. (not a && not b) ≡ not (a || b)) [ true ↦ refl | false ↦ refl ] in
    no_length (numbers_of_news n.classes n.caller (untold n r) r) rest
    ∙ (rw (none_passes (is_news n.classes n.caller r) (untold n r), none_told ns r) (both here there))

pub owed_after : (news : List News) (r : Registration)
    → (not (length r.owed == 0) || list_any (λ n. list_any (is_news n.classes n.caller r) (untold n r)) news) ≡ not (length (hearing news r).owed == 0)
owed_after news r =
    let there = list_any (λ n. list_any (is_news n.classes n.caller r) (untold n r)) news in
    let both : (a b : Bool) → (not a || b) ≡ not (a && not b) = λ a b. elim a as (λ a. (not a || b) ≡ not (a && not b)) [ true ↦ (elim b as (λ b. b ≡ not (not b)) [ true ↦ refl | false ↦ refl ]) | false ↦ refl ] in
    both (length r.owed == 0) there ∙ sym (ap not (no_length r.owed (numbers_untold news r) ∙ ap (λ b. (length r.owed == 0) && b) (none_told news r)))

-- of no rows nobody is owed anything
pub none_owed : (classes : List Class) (rows : List Row) (rs : List Registration) → (length rows == 0) ≡ true → rs ≡ map (owed classes None rows) rs
none_owed classes [] rs none = each rs where
  each : (rs : List Registration) → rs ≡ map (owed classes None []) rs
  each [] = refl
  each (r ∷ rs) = same_lists (sym (none_heard r)) (each rs)
none_owed classes (row ∷ rows) rs none = absurd (true≢false (sym none ∙ not_zero (length rows)))
