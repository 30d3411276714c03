-- Who waits for a conflict to end, and for whom there is none, is among those that are stirred.
use Rattle.std.proofs.Common.{◌≡◌, refl, sym, ap, ◌∙◌, ℕ, List, [], ◌∷◌, map, filter, length, Bool, true, false, not, cond, ◌&&◌, ◌||◌, ◌==◌, find, Option, Some, None, true≢false, eq-eqb, subst}
use Rattle.std.specs.Prelude.{option_map}
use Rattle.std.specs.List.{list_any, list_all}
use Rattle.std.proofs.lemmas.Bool.{and_parts, and_from}
use Rattle.jsp_model.specs.declared.state.State.{State}
use Rattle.jsp_model.specs.declared.state.Row.{Row}
use Rattle.jsp_model.specs.declared.state.Blocked.{Blocked}
use Rattle.jsp_model.specs.Lookup.{contains}
use Rattle.jsp_model.specs.Sight.{is_available, available, is_if, has_conflict}
use Rattle.jsp_model.specs.Quiet.{must_wait}
use Rattle.jsp_model.specs.Limits.{are_rising}
use Rattle.jsp_wait.specs.Offered.{freed_numbered, freed_among, waits_no_more}
use Rattle.jsp_core.specs.Offering.{is_offered, are_offered, are_stirred}
use Rattle.jsp_state.specs.Taking.{may_take}
use Rattle.jsp_state.proofs.OnOffer.{find_alike, offered_to, agree, any_same, find_same, kept_has, or_more, all_weaker, filter_same, may_have, takes_it}

-- no conflict holds it up
abbrev pub is_freed : State → Blocked → Bool
is_freed st b = not (has_conflict st b)

-- ---- who waits no more

all_both : {A : Type 0} (t u : A → Bool) (xs : List A) → list_all t xs ≡ true → list_all u xs ≡ true → list_all (λ x. t x && u x) xs ≡ true
all_both t u [] h k = refl
all_both t u (x ∷ xs) h k =
    let one = and_parts (t x) (list_all t xs) h in
    let two = and_parts (u x) (list_all u xs) k in
    and_from (t x && u x) (list_all (λ x. t x && u x) xs) (and_from (t x) (u x) one.0 two.0) (all_both t u xs one.1 two.1)

none_numbered : (n : ℕ) (ns : List ℕ) → list_any (λ m. m == n && false) ns ≡ false
none_numbered n [] = refl
none_numbered n (m ∷ ns) = go (m == n) (none_numbered n ns)
  where
    go : (b : Bool) → list_any (λ m. m == n && false) ns ≡ false → ((b && false) || list_any (λ m. m == n && false) ns) ≡ false
    go true k = k
    go false k = k

some_numbered : (n : ℕ) (ns : List ℕ) → contains ns n ≡ true → list_any (λ m. m == n && true) ns ≡ true
some_numbered n [] h = absurd (true≢false (sym h))
some_numbered n (m ∷ ns) h = go (m == n) h (some_numbered n ns)
  where
    go : (b : Bool) → (b || contains ns n) ≡ true → (contains ns n ≡ true → list_any (λ m. m == n && true) ns ≡ true) → ((b && true) || list_any (λ m. m == n && true) ns) ≡ true
    go true h ih = refl
    go false h ih = ih h

-- where it is named if it is let go
any_numbered : (n : ℕ) (ns : List ℕ) (c : Bool) → (c ≡ true → contains ns n ≡ true) → list_any (λ m. m == n && c) ns ≡ c
any_numbered n ns true h = some_numbered n ns (h refl)
any_numbered n ns false h = none_numbered n ns

named : (i c m : Bool) → (not i || (c || m)) ≡ true → (i && not c) ≡ true → m ≡ true
named true true m h e = absurd (true≢false (sym e))
named true false m h e = h
named false c m h e = absurd (true≢false (sym e))

among : (st : State) (stirred : Option (List ℕ)) (b : Blocked) → (not (is_if b.form) || (has_conflict st b || is_offered stirred b.number)) ≡ true → freed_among (is_freed st) stirred b ≡ (is_if b.form && not (has_conflict st b))
among st None b h = refl
among st (Some ns) b h = any_numbered b.number ns (is_if b.form && not (has_conflict st b)) (named (is_if b.form) (has_conflict st b) (contains ns b.number) h)

needs_not : (none : Bool) (m : Bool) (i c : Bool) → m ≡ not none → (m || (i && not c)) ≡ not (none && (not i || c))
needs_not true m i c e = rw e (last i c)
  where
    last : (i c : Bool) → (i && not c) ≡ not (not i || c)
    last true true = refl
    last true false = refl
    last false c = refl
needs_not false m i c e = rw e refl

stirred_are : (st : State) (ns : List ℕ) (stirred : Option (List ℕ)) (space : ℕ) → are_offered (Some ns) st ≡ true → are_stirred stirred st ≡ true
    → find (λ b. b.space == space && (may_have st ns b || freed_among (is_freed st) stirred b)) st.blocked ≡ find (λ b. b.space == space && not (must_wait st b)) st.blocked
stirred_are st ns stirred space h s =
    let offered = λ (b : Blocked). list_all (λ r. not (is_available st b r) || contains ns r.number) st.rows in
    let known = λ (b : Blocked). not (is_if b.form) || (has_conflict st b || is_offered stirred b.number) in
    let done = λ (b : Blocked). may_have st ns b || freed_among (is_freed st) stirred b in
    find_alike (λ (b : Blocked). b.space == space) done (λ b. not (must_wait st b)) st.blocked
    (all_weaker (λ b. offered b && known b) (λ b. cond (done b) (not (must_wait st b)) (not (not (must_wait st b)))) (λ b k. each b (and_parts (offered b) (known b) k).0 (and_parts (offered b) (known b) k).1) st.blocked (all_both offered known st.blocked h s))
  where
    each : (b : Blocked) → list_all (λ r. not (is_available st b r) || contains ns r.number) st.rows ≡ true → (not (is_if b.form) || (has_conflict st b || is_offered stirred b.number)) ≡ true
        → cond (may_have st ns b || freed_among (is_freed st) stirred b) (not (must_wait st b)) (not (not (must_wait st b))) ≡ true
    each b k l =
        agree (may_have st ns b || freed_among (is_freed st) stirred b) (not (must_wait st b))
        (ap (λ w. may_have st ns b || w) (among st stirred b l) ∙ needs_not (length (available st b) == 0) (may_have st ns b) (is_if b.form) (has_conflict st b) (offered_to st ns b k))

pub stirred_of : (st : State) (ns : List ℕ) (stirred : Option (List ℕ)) (space : ℕ) → are_rising 0 st.next_number (map (λ r. r.number) st.rows) ≡ true → are_offered (Some ns) st ≡ true → are_stirred stirred st ≡ true
    → find (waits_no_more (may_take st) (freed_among (is_freed st) stirred) space ns) st.blocked ≡ find (λ b. b.space == space && not (must_wait st b)) st.blocked
stirred_of st ns stirred space up h s =
    find_same (waits_no_more (may_take st) (freed_among (is_freed st) stirred) space ns) (λ b. b.space == space && (may_have st ns b || freed_among (is_freed st) stirred b)) st.blocked
    (λ b. ap (λ w. b.space == space && (w || freed_among (is_freed st) stirred b)) (any_same (λ n. may_take st n b) (contains (available st b)) ns (λ n. takes_it st up n b)))
    ∙ stirred_are st ns stirred space h s

-- ---- who is stirred no more

abbrev pub is_let_go : State → ℕ → Bool
is_let_go st n = list_any (freed_numbered (is_freed st) n) st.blocked

kept_named : (st : State) (ns : List ℕ) (b : Blocked) (i c : Bool) → (i ≡ true → c ≡ false → is_let_go st b.number ≡ true) → (not i || (c || contains ns b.number)) ≡ true → (not i || (c || contains (filter (is_let_go st) ns) b.number)) ≡ true
kept_named st ns b true true h k = refl
kept_named st ns b true false h k = kept_has (is_let_go st) ns b.number k (h refl refl)
kept_named st ns b false c h k = refl

itself : (st : State) (b : Blocked) (i c : Bool) → i ≡ true → c ≡ false → (b.number == b.number && (i && not c)) ≡ true
itself st b i c e k = rw (e, k, eq-eqb b.number b.number refl) refl

named_stay : (st : State) (ns : List ℕ) (bs : List Blocked) → ((n : ℕ) → list_any (freed_numbered (is_freed st) n) bs ≡ true → is_let_go st n ≡ true)
    → list_all (λ b. not (is_if b.form) || (has_conflict st b || contains ns b.number)) bs ≡ true
    → list_all (λ b. not (is_if b.form) || (has_conflict st b || contains (filter (is_let_go st) ns) b.number)) bs ≡ true
named_stay st ns [] within h = refl
named_stay st ns (b ∷ bs) within h =
    let parts = and_parts (not (is_if b.form) || (has_conflict st b || contains ns b.number)) (list_all (λ b. not (is_if b.form) || (has_conflict st b || contains ns b.number)) bs) h in
    and_from (not (is_if b.form) || (has_conflict st b || contains (filter (is_let_go st) ns) b.number)) (list_all (λ b. not (is_if b.form) || (has_conflict st b || contains (filter (is_let_go st) ns) b.number)) bs)
    (kept_named st ns b (is_if b.form) (has_conflict st b) (λ e k. within b.number (rw (itself st b (is_if b.form) (has_conflict st b) e k) refl)) parts.0)
    (named_stay st ns bs (λ n e. within n (or_more (freed_numbered (is_freed st) n b) (list_any (freed_numbered (is_freed st) n) bs) e)) parts.1)

pub kept_stirred : (st : State) (o : Option (List ℕ)) → are_stirred o st ≡ true → are_stirred (option_map (filter (is_let_go st)) o) st ≡ true
kept_stirred st None h = h
kept_stirred st (Some ns) h = named_stay st ns st.blocked (λ n e. e) h

none_freed : (st : State) (bs : List Blocked) → find (λ b. is_if b.form && not (has_conflict st b)) bs ≡ None → list_all (λ b. not (is_if b.form) || (has_conflict st b || false)) bs ≡ true
none_freed st [] e = refl
none_freed st (b ∷ bs) e = go (is_if b.form) (has_conflict st b) e (none_freed st bs)
  where
    go : (i c : Bool) → cond (i && not c) (Some b) (find (λ b. is_if b.form && not (has_conflict st b)) bs) ≡ None
        → (find (λ b. is_if b.form && not (has_conflict st b)) bs ≡ None → list_all (λ b. not (is_if b.form) || (has_conflict st b || false)) bs ≡ true)
        → ((not i || (c || false)) && list_all (λ b. not (is_if b.form) || (has_conflict st b || false)) bs) ≡ true
    go true true k ih = ih k
    go true false k ih = let some : Some b ≡ None = k in absurd (cc)
    go false c k ih = ih k

pub nobody_stirred : (st : State) → find (λ b. is_if b.form && not (has_conflict st b)) st.blocked ≡ None → are_stirred (Some []) st ≡ true
nobody_stirred st e = none_freed st st.blocked e

pub nobody_waits : (st : State) → st.blocked ≡ [] → are_stirred (Some []) st ≡ true
nobody_waits st e = ap (list_all (λ b. not (is_if b.form) || (has_conflict st b || false))) e
