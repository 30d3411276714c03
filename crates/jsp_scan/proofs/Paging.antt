-- The rows that a page shows: the first of those that the set may still show.
use Rattle.std.proofs.Common.{◌≡◌, ℕ, ◌+◌, ◌<◌, ◌≤◌, Bool, true, false, List, [], ◌∷◌, ◌++◌, length, map, take, drop, get_or, Option, Some, None, refl, ap, sym, ◌∙◌, arith, length-append}
use Rattle.std.specs.Prelude.{filter}
use Rattle.std.specs.List.{last_or}
use Rattle.std.proofs.lemmas.List.{take_more, take_all, take-append-le, take-append-drop, map-append, length-map, append-nil}
use Rattle.std.proofs.lemmas.List.Elements.{filter-append}
use Rattle.jsp_types.specs.declared.class.Class.{Class}
use Rattle.jsp_types.specs.declared.entry.Entry.{Entry}
use Rattle.jsp_model.specs.declared.state.Row.{Row}
use Rattle.jsp_model.specs.declared.state.MatchSet.{MatchSet}
use Rattle.jsp_sight.specs.Rows.{shows, shown_among}

abbrev pub shown : List Class → MatchSet → List Row → List Row
shown classes m rows = filter (shows classes m) rows

shown_next : (classes : List Class) (m : MatchSet) (rows : List Row) (i : ℕ) (d : Row) → i < length rows → shown classes m (take (i + 1) rows) ≡ shown classes m (take i rows) ++ shown classes m (get_or rows i d ∷ [])
shown_next classes m rows i d lt = ap (shown classes m) (take_more rows i d lt) ∙ filter-append (shows classes m) (take i rows) (get_or rows i d ∷ [])

-- one row more is shown, or passed over
pub shown_more : (classes : List Class) (m : MatchSet) (rows : List Row) (i : ℕ) (d : Row) → i < length rows → shows classes m (get_or rows i d) ≡ true → shown classes m (take (i + 1) rows) ≡ shown classes m (take i rows) ++ get_or rows i d ∷ []
shown_more classes m rows i d lt is = shown_next classes m rows i d lt ∙ (rw is refl)

pub shown_same : (classes : List Class) (m : MatchSet) (rows : List Row) (i : ℕ) (d : Row) → i < length rows → shows classes m (get_or rows i d) ≡ false → shown classes m (take (i + 1) rows) ≡ shown classes m (take i rows)
shown_same classes m rows i d lt is = shown_next classes m rows i d lt ∙ ((rw is refl) ∙ append-nil (shown classes m (take i rows)))

-- as many as the page has were found among the first rows
pub page_early : (classes : List Class) (m : MatchSet) (rows : List Row) (i most : ℕ) → length (shown classes m (take i rows)) ≡ most → shown classes m (take i rows) ≡ take most (shown classes m rows)
page_early classes m rows i most long =
    let first = shown classes m (take i rows) in
    let rest = shown classes m (drop i rows) in
    let split : shown classes m rows ≡ first ++ rest = ap (shown classes m) (sym (take-append-drop i rows)) ∙ filter-append (shows classes m) (take i rows) (drop i rows) in
    sym (ap (take most) split ∙ (take-append-le most first rest (omega (arith, long)) ∙ take_all most first (omega (arith, long))))

-- ---- entries

pub entries_more : (classes : List Class) (m : MatchSet) (rows : List Row) (i : ℕ) (d : Row) (old new : List Entry) → i < length rows → old ≡ shown_among classes m (take i rows) → new ≡ old ++ shown_among classes m (get_or rows i d ∷ []) → new ≡ shown_among classes m (take (i + 1) rows)
entries_more classes m rows i d old new lt so more =
    more ∙ (ap (λ w. w ++ shown_among classes m (get_or rows i d ∷ [])) so ∙ (sym (map-append _ (shown classes m (take i rows)) (shown classes m (get_or rows i d ∷ []))) ∙ ap (map (λ (row : Row). row.entry)) (sym (shown_next classes m rows i d lt))))

one_at_most : (classes : List Class) (m : MatchSet) (row : Row) → length (shown_among classes m (row ∷ [])) ≤ 1
one_at_most classes m row = at (shows classes m row) refl
  where
    at : (b : Bool) → shows classes m row ≡ b → length (shown_among classes m (row ∷ [])) ≤ 1
    at true is = rw is (omega arith)
    at false is = rw is (omega arith)

pub few_more : (classes : List Class) (m : MatchSet) (row : Row) (old new : List Entry) (most : ℕ) → length old < most → new ≡ old ++ shown_among classes m (row ∷ []) → length new ≤ most
few_more classes m row old new most few more =
    let long : length new ≡ length old + length (shown_among classes m (row ∷ [])) = ap length more ∙ length-append old (shown_among classes m (row ∷ [])) in
    omega (arith, long, one_at_most classes m row, few)

pub entries_early : (classes : List Class) (m : MatchSet) (rows : List Row) (i most : ℕ) (found : List Entry) → most ≤ length found → length found ≤ most → found ≡ shown_among classes m (take i rows) → found ≡ map (λ (row : Row). row.entry) (take most (shown classes m rows))
entries_early classes m rows i most found enough few so =
    let long : length (shown classes m (take i rows)) ≡ most = omega (arith, ap length so, length-map (shown classes m (take i rows)) (λ (row : Row). row.entry), enough, few) in
    so ∙ ap (map (λ (row : Row). row.entry)) (page_early classes m rows i most long)

-- ---- the last row

last_of_more : {A : Type 0} (d : Option A) (xs : List A) (y : A) → last_or d (xs ++ y ∷ []) ≡ Some y
last_of_more d [] y = refl
last_of_more d (x ∷ xs) y = last_of_more (Some x) xs y

abbrev pub last_number : List Row → Option ℕ
last_number rows = last_or None (map (λ row. row.number) rows)

pub last_more : (classes : List Class) (m : MatchSet) (rows : List Row) (i : ℕ) (d : Row) → i < length rows → shows classes m (get_or rows i d) ≡ true → Some (get_or rows i d).number ≡ last_number (shown classes m (take (i + 1) rows))
last_more classes m rows i d lt is =
    sym (ap last_number (shown_more classes m rows i d lt is) ∙ (ap (last_or None) (map-append (λ (row : Row). row.number) (shown classes m (take i rows)) (get_or rows i d ∷ [])) ∙ last_of_more None (map (λ (row : Row). row.number) (shown classes m (take i rows))) (get_or rows i d).number))

pub count_more : (classes : List Class) (m : MatchSet) (rows : List Row) (i : ℕ) (d : Row) → i < length rows → shows classes m (get_or rows i d) ≡ true → length (shown classes m (take (i + 1) rows)) ≡ length (shown classes m (take i rows)) + 1
count_more classes m rows i d lt is = ap length (shown_more classes m rows i d lt is) ∙ length-append (shown classes m (take i rows)) (get_or rows i d ∷ [])
