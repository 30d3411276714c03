-- Whoever may be given a row may be given one on offer.
use Rattle.std.proofs.Common.{◌≡◌, refl, sym, ap, ◌∙◌, ℕ, List, [], ◌∷◌, map, filter, length, Bool, true, false, not, cond, ◌&&◌, ◌||◌, ◌==◌, find, Option, Some, None, true≢false, eq-eqb, eqb-true, nat_lt, ◌<◌, ◌≤◌, subst, arith}
use Rattle.std.specs.Prelude.{option_map}
use Rattle.std.specs.List.{list_any, list_all}
use Rattle.std.specs.Option.{option_map_or}
use Rattle.std.proofs.lemmas.Bool.{and_parts, and_from, false_from_ne_true, ne_eqb, ltb-true}
use Rattle.jsp_model.specs.declared.state.State.{State}
use Rattle.jsp_model.specs.declared.state.Row.{Row}
use Rattle.jsp_model.specs.declared.state.Blocked.{Blocked}
use Rattle.jsp_model.specs.Lookup.{contains}
use Rattle.jsp_model.specs.Sight.{is_available, available, is_if, has_conflict}
use Rattle.jsp_model.specs.Quiet.{must_wait}
use Rattle.jsp_model.specs.Limits.{are_rising}
use Rattle.jsp_sight.specs.Rows.{wanted, unmarked}
use Rattle.jsp_wait.specs.Offered.{IsAsked, AskForIt, takes_one}
use Rattle.jsp_core.specs.Offering.{are_offered}
use Rattle.jsp_state.specs.Taking.{may_take}

-- ---- lists

numbers_pass : (p : Row → Bool) (q : ℕ → Bool) (rows : List Row) → list_all (λ r. not (p r) || q r.number) rows ≡ true → list_all q (map (λ r. r.number) (filter p rows)) ≡ true
numbers_pass p q [] h = refl
numbers_pass p q (r ∷ rows) h =
    let parts = and_parts (not (p r) || q r.number) (list_all (λ r. not (p r) || q r.number) rows) h in
    go (p r) parts.0 (numbers_pass p q rows parts.1)
  where
    go : (b : Bool) → (not b || q r.number) ≡ true → list_all q (map (λ r. r.number) (filter p rows)) ≡ true → list_all q (map (λ r. r.number) (cond b (r ∷ filter p rows) (filter p rows))) ≡ true
    go true k ih = rw k ih
    go false k ih = ih

passed_numbers : (p : Row → Bool) (q : ℕ → Bool) (rows : List Row) → list_all q (map (λ r. r.number) (filter p rows)) ≡ true → list_all (λ r. not (p r) || q r.number) rows ≡ true
passed_numbers p q [] h = refl
passed_numbers p q (r ∷ rows) h = go (p r) h (passed_numbers p q rows)
  where
    go : (b : Bool) → list_all q (map (λ r. r.number) (cond b (r ∷ filter p rows) (filter p rows))) ≡ true → (list_all q (map (λ r. r.number) (filter p rows)) ≡ true → list_all (λ r. not (p r) || q r.number) rows ≡ true)
        → ((not b || q r.number) && list_all (λ r. not (p r) || q r.number) rows) ≡ true
    go true k ih = let parts = and_parts (q r.number) (list_all q (map (λ r. r.number) (filter p rows))) k in rw parts.0 (ih parts.1)
    go false k ih = ih k

pub or_more : (a b : Bool) → b ≡ true → (a || b) ≡ true
or_more true b k = refl
or_more false b k = k

any_here : (t : ℕ → Bool) (ns : List ℕ) (n : ℕ) → contains ns n ≡ true → t n ≡ true → list_any t ns ≡ true
any_here t [] n e h = absurd (true≢false (sym e))
any_here t (m ∷ ns) n e h = go (m == n) refl e (any_here t ns n)
  where
    go : (b : Bool) → (m == n) ≡ b → (b || contains ns n) ≡ true → (contains ns n ≡ true → t n ≡ true → list_any t ns ≡ true) → (t m || list_any t ns) ≡ true
    go true k q ih = let w : t m ≡ true = ap t (eqb-true m n k) ∙ h in rw w refl
    go false k q ih = or_more (t m) (list_any t ns) (ih q h)

none_here : (ns : List ℕ) → list_any (contains []) ns ≡ false
none_here [] = refl
none_here (n ∷ ns) = none_here ns

not_zero : (n : ℕ) (found : List ℕ) → (length (n ∷ found) == 0) ≡ false
not_zero n found = false_from_ne_true (length (n ∷ found) == 0) (λ k. let w : length (n ∷ found) ≡ 0 = eqb-true (length (n ∷ found)) 0 k in omega (arith, w))

some_here : (found ns : List ℕ) → list_all (contains ns) found ≡ true → list_any (contains found) ns ≡ not (length found == 0)
some_here [] ns h = none_here ns
some_here (n ∷ found) ns h =
    let parts = and_parts (contains ns n) (list_all (contains ns) found) h in
    let self : (n == n) ≡ true = eq-eqb n n refl in
    any_here (contains (n ∷ found)) ns n parts.0 (rw self refl) ∙ sym (ap not (not_zero n found))

pub find_alike : {A : Type 0} (here t u : A → Bool) (xs : List A) → list_all (λ x. cond (t x) (u x) (not (u x))) xs ≡ true → find (λ x. here x && t x) xs ≡ find (λ x. here x && u x) xs
find_alike here t u [] h = refl
find_alike {A = A} here t u (x ∷ xs) h =
    let parts = and_parts (cond (t x) (u x) (not (u x))) (list_all (λ x. cond (t x) (u x) (not (u x))) xs) h in
    go (t x) (u x) parts.0 (find_alike here t u xs parts.1)
  where
    go : (a b : Bool) → cond a b (not b) ≡ true → find (λ x. here x && t x) xs ≡ find (λ x. here x && u x) xs → cond (here x && a) (Some x) (find (λ x. here x && t x) xs) ≡ cond (here x && b) (Some x) (find (λ x. here x && u x) xs)
    go true true k ih = ap (λ o. cond (here x && true) (Some x) o) ih
    go true false k ih = absurd (true≢false (sym k))
    go false true k ih = absurd (true≢false (sym k))
    go false false k ih = ap (λ o. cond (here x && false) (Some x) o) ih

none_find : {A : Type 0} (here : A → Bool) (xs : List A) → find (λ x. here x && false) xs ≡ None
none_find here [] = refl
none_find here (x ∷ xs) = go (here x) (none_find here xs)
  where
    go : (b : Bool) → find (λ x. here x && false) xs ≡ None → cond (b && false) (Some x) (find (λ x. here x && false) xs) ≡ None
    go true ih = ih
    go false ih = ih

-- ---- who may be given a row

abbrev pub may_have : State → List ℕ → Blocked → Bool
may_have st ns b = list_any (contains (available st b)) ns

pub offered_to : (st : State) (ns : List ℕ) (b : Blocked) → list_all (λ r. not (is_available st b r) || contains ns r.number) st.rows ≡ true → may_have st ns b ≡ not (length (available st b) == 0)
offered_to st ns b h = some_here (available st b) ns (numbers_pass (is_available st b) (contains ns) st.rows h)

pub all_weaker : {A : Type 0} (t u : A → Bool) → ((x : A) → t x ≡ true → u x ≡ true) → (xs : List A) → list_all t xs ≡ true → list_all u xs ≡ true
all_weaker t u f [] h = refl
all_weaker t u f (x ∷ xs) h =
    let parts = and_parts (t x) (list_all t xs) h in
    and_from (u x) (list_all u xs) (f x parts.0) (all_weaker t u f xs parts.1)

pub agree : (a b : Bool) → a ≡ b → cond a b (not b) ≡ true
agree true true e = refl
agree true false e = absurd (true≢false e)
agree false true e = absurd (true≢false (sym e))
agree false false e = refl

pub takers_are : (st : State) (ns : List ℕ) (space : ℕ) → are_offered (Some ns) st ≡ true
    → find (λ b. b.space == space && list_any (contains (available st b)) ns) st.blocked ≡ find (λ b. b.space == space && not (length (available st b) == 0)) st.blocked
takers_are st ns space h =
    find_alike (λ (b : Blocked). b.space == space) (may_have st ns) (λ b. not (length (available st b) == 0)) st.blocked
    (all_weaker (λ b. list_all (λ r. not (is_available st b r) || contains ns r.number) st.rows) (λ b. cond (may_have st ns b) (not (length (available st b) == 0)) (not (not (length (available st b) == 0))))
    (λ b k. agree (may_have st ns b) (not (length (available st b) == 0)) (offered_to st ns b k)) st.blocked h)

pub no_takers : (st : State) (space : ℕ) → are_offered (Some []) st ≡ true → None ≡ find (λ b. b.space == space && not (length (available st b) == 0)) st.blocked
no_takers st space h = sym (none_find (λ (b : Blocked). b.space == space) st.blocked) ∙ takers_are st [] space h

-- ---- by the row of a number

-- a row that a request may be given is one that it wants
row_asked : (st : State) (b : Blocked) (o : Option Row) → option_map_or (λ r. is_available st b r) o false ≡ true → IsAsked st.classes (option_map unmarked o) b
row_asked st b None h = absurd (true≢false (sym h))
row_asked st b (Some r) h = (and_parts (wanted st.classes b r) _ h).0

pub ask_for_it : (st : State) → AskForIt st.classes (λ n. option_map unmarked (find (λ (r : Row). r.number == n) st.rows)) (may_take st)
ask_for_it st n b h = row_asked st b (find (λ (r : Row). r.number == n) st.rows) h

not_above : (p : Row → Bool) (n low high : ℕ) (rows : List Row) → n ≤ low → are_rising low high (map (λ r. r.number) rows) ≡ true → contains (map (λ r. r.number) (filter p rows)) n ≡ false
not_above p n low high [] le h = refl
not_above p n low high (r ∷ rows) le h =
    let parts = and_parts (nat_lt low r.number) (are_rising r.number high (map (λ r. r.number) rows)) h in
    let less : low < r.number = ltb-true low r.number parts.0 in
    go (p r) (ne_eqb r.number n (λ e. omega (arith, less))) (not_above p n r.number high rows (omega (arith, less)) parts.1)
  where
    go : (b : Bool) → (r.number == n) ≡ false → contains (map (λ r. r.number) (filter p rows)) n ≡ false → contains (map (λ r. r.number) (cond b (r ∷ filter p rows) (filter p rows))) n ≡ false
    go true e ih = rw e ih
    go false e ih = ih

-- of rising numbers each stands once
one_of_number : (p : Row → Bool) (n low high : ℕ) (rows : List Row) → are_rising low high (map (λ r. r.number) rows) ≡ true
    → option_map_or p (find (λ (r : Row). r.number == n) rows) false ≡ contains (map (λ r. r.number) (filter p rows)) n
one_of_number p n low high [] h = refl
one_of_number p n low high (r ∷ rows) h =
    let parts = and_parts (nat_lt low r.number) (are_rising r.number high (map (λ r. r.number) rows)) h in
    go (r.number == n) refl (p r) refl (one_of_number p n r.number high rows parts.1) (λ e. not_above p n r.number high rows (same_le (eqb-true r.number n e)) parts.1)
  where
    same_le : {a b : ℕ} → a ≡ b → b ≤ a
    same_le e = omega arith

    go : (here : Bool) → (r.number == n) ≡ here → (b : Bool) → p r ≡ b → option_map_or p (find (λ (r : Row). r.number == n) rows) false ≡ contains (map (λ r. r.number) (filter p rows)) n
        → ((r.number == n) ≡ true → contains (map (λ r. r.number) (filter p rows)) n ≡ false)
        → option_map_or p (cond here (Some r) (find (λ (r : Row). r.number == n) rows)) false ≡ contains (map (λ r. r.number) (cond b (r ∷ filter p rows) (filter p rows))) n
    go true k true q ih none = rw (q, k) refl
    go true k false q ih none = rw q (sym (none k))
    go false k true q ih none = rw k ih
    go false k false q ih none = ih

pub takes_it : (st : State) → are_rising 0 st.next_number (map (λ r. r.number) st.rows) ≡ true → (n : ℕ) (b : Blocked) → may_take st n b ≡ contains (available st b) n
takes_it st up n b = one_of_number (is_available st b) n 0 st.next_number st.rows up

pub any_same : {A : Type 0} (p q : A → Bool) (xs : List A) → ((x : A) → p x ≡ q x) → list_any p xs ≡ list_any q xs
any_same p q [] h = refl
any_same p q (x ∷ xs) h = rw (h x) (ap (λ w. q x || w) (any_same p q xs h))

pub find_same : {A : Type 0} (p q : A → Bool) (xs : List A) → ((x : A) → p x ≡ q x) → find p xs ≡ find q xs
find_same p q [] h = refl
find_same p q (x ∷ xs) h = rw (h x) (ap (λ w. cond (q x) (Some x) w) (find_same p q xs h))

pub takers_of : (st : State) (ns : List ℕ) (space : ℕ) → are_rising 0 st.next_number (map (λ r. r.number) st.rows) ≡ true → are_offered (Some ns) st ≡ true
    → find (takes_one (may_take st) space ns) st.blocked ≡ find (λ b. b.space == space && not (length (available st b) == 0)) st.blocked
takers_of st ns space up h =
    find_same (takes_one (may_take st) space ns) (λ b. b.space == space && list_any (contains (available st b)) ns) st.blocked
    (λ b. ap (λ w. b.space == space && w) (any_same (λ n. may_take st n b) (contains (available st b)) ns (λ n. takes_it st up n b)))
    ∙ takers_are st ns space h

-- ---- what is taken off

-- the number is of a row that a waiting request may be given
abbrev pub is_wanted : State → ℕ → Bool
is_wanted st n = list_any (λ b. contains (available st b) n) st.blocked

pub kept_has : (t : ℕ → Bool) (ns : List ℕ) (n : ℕ) → contains ns n ≡ true → t n ≡ true → contains (filter t ns) n ≡ true
kept_has t [] n e h = e
kept_has t (m ∷ ns) n e h = go (m == n) refl (t m) refl e (kept_has t ns n)
  where
    go : (b : Bool) → (m == n) ≡ b → (d : Bool) → t m ≡ d → (b || contains ns n) ≡ true → (contains ns n ≡ true → t n ≡ true → contains (filter t ns) n ≡ true) → contains (cond d (m ∷ filter t ns) (filter t ns)) n ≡ true
    go true k true q e ih = rw k refl
    go true k false q e ih = let w : t m ≡ true = ap t (eqb-true m n k) ∙ h in absurd (true≢false (sym w ∙ q))
    go false k true q e ih = rw k (ih e h)
    go false k false q e ih = ih e h

each_itself : (q : ℕ → Bool) (found : List ℕ) → ((n : ℕ) → contains found n ≡ true → q n ≡ true) → list_all q found ≡ true
each_itself q [] h = refl
each_itself q (n ∷ found) h =
    let self : (n == n) ≡ true = eq-eqb n n refl in
    and_from (q n) (list_all q found) (h n (rw self refl)) (each_itself q found (λ m e. h m (or_more (n == m) (contains found m) e)))

each_passes : (q : ℕ → Bool) (found : List ℕ) (n : ℕ) → list_all q found ≡ true → contains found n ≡ true → q n ≡ true
each_passes q [] n h e = absurd (true≢false (sym e))
each_passes q (m ∷ found) n h e =
    let parts = and_parts (q m) (list_all q found) h in
    go (m == n) refl e parts.0 (each_passes q found n parts.1)
  where
    go : (b : Bool) → (m == n) ≡ b → (b || contains found n) ≡ true → q m ≡ true → (contains found n ≡ true → q n ≡ true) → q n ≡ true
    go true k e here ih = ap q (sym (eqb-true m n k)) ∙ here
    go false k e here ih = ih e

still_offered : (st : State) (ns : List ℕ) (b : Blocked) → ((n : ℕ) → contains (available st b) n ≡ true → is_wanted st n ≡ true) → list_all (λ r. not (is_available st b r) || contains ns r.number) st.rows ≡ true
    → list_all (λ r. not (is_available st b r) || contains (filter (is_wanted st) ns) r.number) st.rows ≡ true
still_offered st ns b wanted h =
    let all : list_all (contains ns) (available st b) ≡ true = numbers_pass (is_available st b) (contains ns) st.rows h in
    passed_numbers (is_available st b) (contains (filter (is_wanted st) ns)) st.rows
    (each_itself (contains (filter (is_wanted st) ns)) (available st b) (λ n e. kept_has (is_wanted st) ns n (each_passes (contains ns) (available st b) n all e) (wanted n e)))

wanted_stay : (st : State) (ns : List ℕ) (bs : List Blocked) → ((n : ℕ) → list_any (λ b. contains (available st b) n) bs ≡ true → is_wanted st n ≡ true)
    → list_all (λ b. list_all (λ r. not (is_available st b r) || contains ns r.number) st.rows) bs ≡ true
    → list_all (λ b. list_all (λ r. not (is_available st b r) || contains (filter (is_wanted st) ns) r.number) st.rows) bs ≡ true
wanted_stay st ns [] within h = refl
wanted_stay st ns (b ∷ bs) within h =
    let parts = and_parts (list_all (λ r. not (is_available st b r) || contains ns r.number) st.rows) (list_all (λ b. list_all (λ r. not (is_available st b r) || contains ns r.number) st.rows) bs) h in
    and_from (list_all (λ r. not (is_available st b r) || contains (filter (is_wanted st) ns) r.number) st.rows) _
    (still_offered st ns b (λ n e. within n (rw e refl)) parts.0)
    (wanted_stay st ns bs (λ n e. within n (or_more (contains (available st b) n) (list_any (λ b. contains (available st b) n) bs) e)) parts.1)

pub kept_offered : (st : State) (o : Option (List ℕ)) → are_offered o st ≡ true → are_offered (option_map (filter (is_wanted st)) o) st ≡ true
kept_offered st None h = h
kept_offered st (Some ns) h = wanted_stay st ns st.blocked (λ n e. e) h

pub filter_same : (p q : ℕ → Bool) (ns : List ℕ) → ((n : ℕ) → p n ≡ q n) → filter p ns ≡ filter q ns
filter_same p q [] h = refl
filter_same p q (n ∷ ns) h = rw (h n) (ap (λ w. cond (q n) (n ∷ w) w) (filter_same p q ns h))

pub kept_of : (st : State) (o : Option (List ℕ)) → are_rising 0 st.next_number (map (λ r. r.number) st.rows) ≡ true → are_offered o st ≡ true
    → are_offered (option_map (filter (λ n. list_any (λ b. may_take st n b) st.blocked)) o) st ≡ true
kept_of st None up h = h
kept_of st (Some ns) up h =
    subst (λ w. are_offered (Some w) st ≡ true) (filter_same (is_wanted st) (λ n. list_any (λ b. may_take st n b) st.blocked) ns (λ n. any_same (λ b. contains (available st b) n) (λ b. may_take st n b) st.blocked (λ b. sym (takes_it st up n b))))
    (kept_offered st (Some ns) h)

none_takes : (st : State) (bs : List Blocked) → find (λ b. not (length (available st b) == 0)) bs ≡ None → list_all (λ b. list_all (λ r. not (is_available st b r) || false) st.rows) bs ≡ true
none_takes st [] e = refl
none_takes st (b ∷ bs) e = go (available st b) refl e (none_takes st bs)
  where
    go : (found : List ℕ) → available st b ≡ found → cond (not (length found == 0)) (Some b) (find (λ b. not (length (available st b) == 0)) bs) ≡ None
        → (find (λ b. not (length (available st b) == 0)) bs ≡ None → list_all (λ b. list_all (λ r. not (is_available st b r) || false) st.rows) bs ≡ true)
        → (list_all (λ r. not (is_available st b r) || false) st.rows && list_all (λ b. list_all (λ r. not (is_available st b r) || false) st.rows) bs) ≡ true
    go [] k e ih = rw (passed_numbers (is_available st b) (λ n. false) st.rows (ap (list_all (λ n. false)) k)) (ih e)
    go (n ∷ found) k e ih = let some : Some b ≡ None = rw (not_zero n found) at e in absurd (cc)

pub none_waits : (st : State) → st.blocked ≡ [] → are_offered (Some []) st ≡ true
none_waits st e = ap (list_all (λ b. list_all (λ r. not (is_available st b r) || false) st.rows)) e

pub none_offered : (st : State) → find (λ b. not (length (available st b) == 0)) st.blocked ≡ None → are_offered (Some []) st ≡ true
none_offered st e = none_takes st st.blocked e

pub none_left : (ns : List ℕ) → (length ns == 0) ≡ true → ns ≡ []
none_left [] e = refl
none_left (n ∷ ns) e = absurd (true≢false (sym e ∙ not_zero n ns))
