-- What registrations are owed, and what is taken back.
use Rattle.std.proofs.Common.{◌≡◌, ℕ, ◌+◌, ◌-◌, ◌<◌, Bool, true, false, cond, ◌&&◌, List, [], ◌∷◌, ◌++◌, length, take, get_or, map, Option, Some, None, refl, ap, sym, ◌∙◌, arith, append_assoc, length-append}
use Rattle.std.specs.Prelude.{filter}
use Rattle.std.proofs.lemmas.List.{take_at, take_all, take_more, take-take, length-take-le, append-nil, map-append, length-map, map-id}
use Rattle.std.proofs.lemmas.List.Elements.{filter-append}
use Rattle.jsp_types.specs.declared.class.Class.{Class}
use Rattle.jsp_model.specs.declared.state.Row.{Row}
use Rattle.jsp_model.specs.declared.state.Registration.{Registration}
use Rattle.jsp_notify.specs.Owing.{is_news, is_within, numbers_of_news, owed, owed_one, owed_within, forgiven, forgiven_within}
use Rattle.jsp_keyed.specs.Changing.{where_passed}

pub map_twice : {X : Type 0} (f g h : X → X) → ((x : X) → f (g x) ≡ h x) → (xs : List X) → map f (map g xs) ≡ map h xs
map_twice f g h same [] = refl
map_twice f g h same (x ∷ xs) = rw (same x) (ap (λ w. h x ∷ w) (map_twice f g h same xs))

-- what was owed last is taken back
pub forgiven-owed : (classes : List Class) (caller : Option ℕ) (rows : List Row) (r : Registration) → forgiven classes caller rows (owed classes caller rows r) ≡ r
forgiven-owed classes caller rows r =
    let new = numbers_of_news classes caller rows r in
    let told = filter (is_news classes caller r) rows in
    let long : length r.owed ≡ length (r.owed ++ new) - length told = omega (arith, length-append r.owed new, length-map told (λ (w : Row). w.number)) in
    ap (λ w. record r { owed = w }) (take_at r.owed new (length (r.owed ++ new) - length told) long)

-- of those within a range too
same_range : (from : ℕ) (below : Option ℕ) (r : Registration) (w : List ℕ) → is_within from below (record r { owed = w }) ≡ is_within from below r
same_range from None r w = refl
same_range from (Some b) r w = refl

pub forgiven-within : (classes : List Class) (caller : Option ℕ) (row : Row) (from : ℕ) (below : Option ℕ) (r : Registration) → forgiven_within classes caller row from below (owed_within classes caller row from below r) ≡ r
forgiven-within classes caller row from below r = at (is_within from below r) refl where
  at : (b : Bool) → is_within from below r ≡ b → forgiven_within classes caller row from below (cond b (owed classes caller (row ∷ []) r) r) ≡ r
  at true e =
      let q = owed classes caller (row ∷ []) r in
      ap (λ c. cond c (forgiven classes caller (row ∷ []) q) q) (same_range from below r q.owed ∙ e) ∙ forgiven-owed classes caller (row ∷ []) r
  at false e = ap (λ c. cond c (forgiven classes caller (row ∷ []) r) r) e

-- what all were owed last
pub all_forgiven : (classes : List Class) (caller : Option ℕ) (rows : List Row) (registrations : List Registration) → map (forgiven classes caller rows) (map (owed classes caller rows) registrations) ≡ registrations
all_forgiven classes caller rows registrations =
    map_twice (forgiven classes caller rows) (owed classes caller rows) (λ r. r) (forgiven-owed classes caller rows) registrations ∙ map-id registrations

-- ---- one row after the other

pub same_lists : {X : Type 0} {x y : X} {xs ys : List X} → x ≡ y → xs ≡ ys → x ∷ xs ≡ y ∷ ys
same_lists e h = cc

-- what is owed of some and then of others
pub owed_parts : (classes : List Class) (caller : Option ℕ) (xs ys : List Row) (r : Registration) → owed classes caller (xs ++ ys) r ≡ owed classes caller ys (owed classes caller xs r)
owed_parts classes caller xs ys r =
    let news = is_news classes caller r in
    let number = λ (w : Row). w.number in
    ap (λ (w : List ℕ). record r { owed = w })
    (ap (λ (w : List ℕ). r.owed ++ w) (ap (map number) (filter-append news xs ys) ∙ map-append number (filter news xs) (filter news ys)) ∙ sym (append_assoc r.owed (map number (filter news xs)) (map number (filter news ys))))

pub owed_more : (classes : List Class) (caller : Option ℕ) (rows : List Row) (i : ℕ) (row : Row) → i < length rows → row ≡ get_or rows i row → (rs : List Registration)
    → map (owed classes caller (row ∷ [])) (map (owed classes caller (take i rows)) rs) ≡ map (owed classes caller (take (i + 1) rows)) rs
owed_more classes caller rows i row lt is [] = refl
owed_more classes caller rows i row lt is (r ∷ rs) =
    same_lists (sym (ap (λ (w : List Row). owed classes caller w r) (take_more rows i row lt ∙ ap (λ (w : Row). take i rows ++ w ∷ []) (sym is)) ∙ owed_parts classes caller (take i rows) (row ∷ []) r)) (owed_more classes caller rows i row lt is rs)

taken_twice : (xs : List ℕ) (m n : ℕ) → take (length (take (length xs - m) xs) - n) (take (length xs - m) xs) ≡ take (length xs - (m + n)) xs
taken_twice xs m n =
    let long : length (take (length xs - m) xs) ≡ length xs - m = length-take-le (length xs - m) xs (omega arith) in
    let left : length (take (length xs - m) xs) - n ≡ length xs - (m + n) = omega (arith, long) in
    ap (λ (k : ℕ). take k (take (length xs - m) xs)) left ∙ take-take (length xs - (m + n)) (length xs - m) xs (omega arith)

-- what is taken back for some and then for others
forgiven_parts : (classes : List Class) (caller : Option ℕ) (xs ys : List Row) (r : Registration) → forgiven classes caller (xs ++ ys) r ≡ forgiven classes caller ys (forgiven classes caller xs r)
forgiven_parts classes caller xs ys r =
    let news = is_news classes caller r in
    let m = length (filter news xs) in
    let n = length (filter news ys) in
    ap (λ (w : List ℕ). record r { owed = w }) (ap (λ (k : ℕ). take (length r.owed - k) r.owed) (ap length (filter-append news xs ys) ∙ length-append (filter news xs) (filter news ys)) ∙ sym (taken_twice r.owed m n))

pub forgiven_more : (classes : List Class) (caller : Option ℕ) (rows : List Row) (i : ℕ) (row : Row) → i < length rows → row ≡ get_or rows i row → (rs : List Registration)
    → map (forgiven classes caller (row ∷ [])) (map (forgiven classes caller (take i rows)) rs) ≡ map (forgiven classes caller (take (i + 1) rows)) rs
forgiven_more classes caller rows i row lt is [] = refl
forgiven_more classes caller rows i row lt is (r ∷ rs) =
    same_lists (sym (ap (λ (w : List Row). forgiven classes caller w r) (take_more rows i row lt ∙ ap (λ (w : Row). take i rows ++ w ∷ []) (sym is)) ∙ forgiven_parts classes caller (take i rows) (row ∷ []) r)) (forgiven_more classes caller rows i row lt is rs)

pub none_owed : (classes : List Class) (caller : Option ℕ) (rs : List Registration) → rs ≡ map (owed classes caller []) rs
none_owed classes caller [] = refl
none_owed classes caller (r ∷ rs) = same_lists (ap (λ (w : List ℕ). record r { owed = w }) (sym (append-nil r.owed))) (none_owed classes caller rs)

pub none_forgiven : (classes : List Class) (caller : Option ℕ) (rs : List Registration) → rs ≡ map (forgiven classes caller []) rs
none_forgiven classes caller [] = refl
none_forgiven classes caller (r ∷ rs) = same_lists (ap (λ (w : List ℕ). record r { owed = w }) (sym (take_all (length r.owed - 0) r.owed (omega arith)))) (none_forgiven classes caller rs)

-- ---- one row

module _ (classes : List Class) (caller : Option ℕ) (row : Row) where
  abbrev pub hears : Registration → Bool
  hears r = is_news classes caller r row

-- those within a range to which the row is news are owed it
pub within_owed : (classes : List Class) (caller : Option ℕ) (row : Row) (from : ℕ) (below : Option ℕ) (rs : List Registration)
    → map (where_passed (λ r. is_within from below r && is_news classes caller r row) (owed_one row.number)) rs ≡ map (owed_within classes caller row from below) rs
within_owed classes caller row from below [] = refl
within_owed classes caller row from below (r ∷ rs) = same_lists (at (is_within from below r) (is_news classes caller r row)) (within_owed classes caller row from below rs) where
  at : (a b : Bool) → cond (a && b) (owed_one row.number r) r ≡ cond a (record r { owed = r.owed ++ map (λ (w : Row). w.number) (cond b (row ∷ []) []) }) r
  at true true = refl
  at true false = ap (λ (w : List ℕ). record r { owed = w }) (sym (append-nil r.owed))
  at false b = refl
