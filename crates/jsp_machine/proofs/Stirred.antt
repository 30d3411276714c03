-- After a step each request that waits for a conflict to end, and for which there is none, is named: it was before, or the
-- step may have let go, or taken away, the row that held it up.
use Rattle.std.proofs.Common.{◌≡◌, refl, sym, ap, ◌∙◌, subst, ℕ, ◌+◌, ◌≤◌, ◌<◌, ◌⊎◌, inl, inr, ℤ, List, [], ◌∷◌, ◌++◌, map, take, length, Bool, true, false, not, ◌||◌, ◌&&◌, ◌==◌, Option, Some, None, nat_lt, true≢false, eqb-true, eq-eqb, arith}
use Rattle.std.specs.Prelude.{Result, Ok, Err, OnOk, OnErr, find, option_map, slice_index}
use Rattle.std.specs.List.{list_any, list_all}
use Rattle.std.specs.Option.{option_map_or}
use Rattle.std.proofs.lemmas.Bool.{and_parts, or_parts, ltb-true, ne_eqb}
use Rattle.std.proofs.lemmas.List.{take_more}
use Rattle.jsp_model.specs.declared.state.State.{State}
use Rattle.jsp_model.specs.declared.state.Row.{Row}
use Rattle.jsp_model.specs.declared.state.Blocked.{Blocked}
use Rattle.jsp_model.specs.declared.step.Step.{Step}
use Rattle.jsp_model.specs.Lookup.{contains, named}
use Rattle.jsp_model.specs.Sight.{is_take, is_if, wants, conflicts, is_in_conflict, has_conflict}
use Rattle.jsp_model.specs.Quiet.{must_wait}
use Rattle.jsp_model.specs.Changes.{close}
use Rattle.jsp_model.specs.Steps.{is_legal, next}
use Rattle.jsp_model.specs.Limits.{are_rising}
use Rattle.jsp_laws.proofs.Lists.{Each, Has, each_any, each_has, each_itself, each_weaker, all_kept}
use Rattle.jsp_laws.proofs.Rising.{Rising}
use Rattle.jsp_laws.proofs.Sound.{row_number}
use Rattle.jsp_quiet.specs.Waking.{is_marked}
use Rattle.jsp_quiet.specs.Steady.{IsSteady}
use Rattle.jsp_quiet.specs.Freeing.{frees, frees_any, AsksAlike, ends, ends_any, ends_conflict}
use Rattle.jsp_quiet.proofs.Lists.{any_alike}
use Rattle.jsp_quiet.proofs.Declaring.{declaring_stays}
use Rattle.jsp_quiet.proofs.Waking.{waiting_comes}
use Rattle.jsp_quiet.proofs.Conflicts.{conflict_stays}
use Rattle.jsp_sight.specs.Rows.{unmarked}
use Rattle.jsp_wait.specs.Offered.{waits_for}
use Rattle.jsp_core.specs.Offering.{is_offered, are_stirred}
use Rattle.jsp_state.specs.Outboxes.{after_handing}
use Rattle.jsp_machine.specs.declared.offering.Unmarking.{Unmarking}
use Rattle.jsp_machine.specs.Unmarking.{is_unmarked, cancelled, is_marked_by, is_leased, is_touched_by}
use Rattle.jsp_machine.specs.Stirring.{are_named_for}
use Rattle.jsp_machine.proofs.OnOffer.{all_that, one_of_all, one_that, or_right}

-- ---- rows of rising numbers

above_low : {A : Type 0} (f : A → ℕ) (low high : ℕ) (xs : List A) → are_rising low high (map f xs) ≡ true → Each (λ x. low < f x) xs
above_low f low high [] h = tt
above_low f low high (x ∷ xs) h =
    let parts = and_parts (nat_lt low (f x)) (are_rising (f x) high (map f xs)) h in
    let first : low < f x = ltb-true low (f x) parts.0 in
    (first, each_weaker (λ y. f x < f y) (λ y. low < f y) (λ y l. omega (arith, first, l)) xs (above_low f (f x) high xs parts.1))

pub rising_from : {A : Type 0} (f : A → ℕ) (low high : ℕ) (xs : List A) → are_rising low high (map f xs) ≡ true → Rising f xs
rising_from f low high [] h = tt
rising_from f low high (x ∷ xs) h =
    let parts = and_parts (nat_lt low (f x)) (are_rising (f x) high (map f xs)) h in
    (above_low f (f x) high xs parts.1, rising_from f (f x) high xs parts.1)

-- the row of a number is found
found_row : (low high : ℕ) (rows : List Row) (r : Row) → are_rising low high (map row_number rows) ≡ true → Has rows r → find (λ (q : Row). q.number == r.number) rows ≡ Some r
found_row low high [] r up h = absurd h
found_row low high (q ∷ rows) r up h = go h (found_row q.number high rows r parts.1)
  where
    parts : (nat_lt low q.number ≡ true) × (are_rising q.number high (map row_number rows) ≡ true)
    parts = and_parts (nat_lt low q.number) (are_rising q.number high (map row_number rows)) up

    go : Has (q ∷ rows) r → (Has rows r → find (λ (q : Row). q.number == r.number) rows ≡ Some r) → find (λ (q : Row). q.number == r.number) (q ∷ rows) ≡ Some r
    go (inl e) ih = let same : (q.number == r.number) ≡ true = eq-eqb q.number r.number (ap row_number e) in rw same (ap Some e)
    go (inr k) ih = rw (ne_eqb q.number r.number (λ e. apart e (above k))) (ih k)
      where
        above : Has rows r → q.number < r.number
        above k = each_at (above_low row_number q.number high rows parts.1) k
          where
            each_at : Each (λ (y : Row). q.number < y.number) rows → Has rows r → q.number < r.number
            each_at e k = each_has (λ (y : Row). q.number < y.number) rows r e k

        apart : {a b : ℕ} → a ≡ b → a < b → ⊥
        apart e l = omega (arith, e, l)

-- ---- over a step

wanted_part : (w d : Bool) → (w && d) ≡ true → w ≡ true
wanted_part true d e = refl
wanted_part false d e = absurd (true≢false (sym e))

not_both : (n : Bool) (i c : Bool) → (n && (not i || c)) ≡ true → i ≡ true → c ≡ false → ⊥
not_both n true true e i k = absurd (true≢false k)
not_both true true false e i k = absurd (true≢false (sym e))
not_both false true false e i k = absurd (true≢false (sym e))
not_both n false c e i k = absurd (true≢false (sym i))

stirred_otherwise : (st : State) (act : Step) (before within : Option (List ℕ)) → Rising row_number st.rows → is_legal st act ≡ true → are_stirred before st ≡ true → (ends_any st act ≡ true → within ≡ None)
    → list_all (λ r. not (ends_conflict st act r) || are_named_for st within r) st.rows ≡ true → ((n : ℕ) → is_offered before n ≡ true → is_offered within n ≡ true) → are_stirred within (next st act) ≡ true
stirred_otherwise st act before within rise legal old any named keeps =
    all_that _ (next st act).blocked (λ b in_blocked. each b in_blocked (is_if b.form) refl (has_conflict (next st act) b) refl)
  where
    held_up : (b : Blocked) → is_if b.form ≡ true → has_conflict (next st act) b ≡ false → Has st.blocked b → ends_any st act ≡ false → has_conflict st b ≡ true → is_offered within b.number ≡ true
    held_up b i none there e c =
        let (r, h, w) = each_any (Has st.rows) (is_in_conflict st b) st.rows (each_itself st.rows) c in
        by r h w (ends_conflict st act r) refl
      where
        by : (r : Row) → Has st.rows r → is_in_conflict st b r ≡ true → (d : Bool) → ends_conflict st act r ≡ d → is_offered within b.number ≡ true
        by r h w true k =
            let all : are_named_for st within r ≡ true = one_that (ends_conflict st act r) (are_named_for st within r) (one_of_all (λ r. not (ends_conflict st act r) || are_named_for st within r) st.rows r named h) k in
            let asks : waits_for st.classes r b ≡ true = rw i (wanted_part (wants st b r) _ w) in
            one_that (waits_for st.classes r b) (is_offered within b.number) (one_of_all (λ b. not (waits_for st.classes r b) || is_offered within b.number) st.blocked b all there) asks
        by r h w false k = absurd (true≢false (sym (conflict_stays st act b r rise legal e h w k) ∙ none))

    was : (b : Blocked) → is_if b.form ≡ true → has_conflict (next st act) b ≡ false → Has st.blocked b → ends_any st act ≡ false → (c : Bool) → has_conflict st b ≡ c → is_offered within b.number ≡ true
    was b i none there e true c = held_up b i none there e c
    was b i none there e false c = keeps b.number (known (is_if b.form) (has_conflict st b) i c (one_of_all (λ b. not (is_if b.form) || (has_conflict st b || is_offered before b.number)) st.blocked b old there))
      where
        known : (i c : Bool) → i ≡ true → c ≡ false → (not i || (c || is_offered before b.number)) ≡ true → is_offered before b.number ≡ true
        known true false x y h = h
        known true true x y h = absurd (true≢false y)
        known false c x y h = absurd (true≢false (sym x))

    came : (b : Blocked) → is_if b.form ≡ true → has_conflict (next st act) b ≡ false → Has st.blocked b ⊎ ((st.next_number ≤ b.number) × (must_wait (next st act) b ≡ true)) → (d : Bool) → ends_any st act ≡ d → is_offered within b.number ≡ true
    came b i none there true e = subst (λ w. is_offered w b.number ≡ true) (sym (any e)) refl
    came b i none (inl there) false e = was b i none there e (has_conflict st b) refl
    came b i none (inr new) false e = absurd (not_both _ (is_if b.form) (has_conflict (next st act) b) new.1 i none)

    each : (b : Blocked) → Has (next st act).blocked b → (i : Bool) → is_if b.form ≡ i → (c : Bool) → has_conflict (next st act) b ≡ c → (not i || (c || is_offered within b.number)) ≡ true
    each b h false e c k = refl
    each b h true e true k = refl
    each b h true e false k = came b e k (waiting_comes st act b h) (ends_any st act) refl

more_stirred : (st : State) (o p : Option (List ℕ)) → ((n : ℕ) → is_offered o n ≡ true → is_offered p n ≡ true) → are_stirred o st ≡ true → are_stirred p st ≡ true
more_stirred st o p more h = all_that _ st.blocked (λ b in_blocked. go b (is_if b.form) (has_conflict st b) (one_of_all _ st.blocked b h in_blocked))
  where
    go : (b : Blocked) (i c : Bool) → (not i || (c || is_offered o b.number)) ≡ true → (not i || (c || is_offered p b.number)) ≡ true
    go b true true k = refl
    go b true false k = more b.number k
    go b false c k = refl

-- where the same requests want the same rows, the same rows hold them up
stirred_alike : (st after : State) (o : Option (List ℕ)) → AsksAlike st after → are_stirred o st ≡ true → are_stirred o after ≡ true
stirred_alike st after o k h =
    all_that _ after.blocked
    (λ b in_blocked. ap (λ d. not (is_if b.form) || (d || is_offered o b.number)) (same b) ∙ one_of_all (λ b. not (is_if b.form) || (has_conflict st b || is_offered o b.number)) st.blocked b h (subst (λ bs. Has bs b) k.blocked in_blocked))
  where
    same : (b : Blocked) → has_conflict after b ≡ has_conflict st b
    same b =
        ap (list_any (is_in_conflict after b)) k.rows
        ∙ any_alike (is_in_conflict after b) (is_in_conflict st b) st.rows
        (each_weaker (λ (row : Row). wants after b row ≡ wants st b row) (λ (row : Row). is_in_conflict after b row ≡ is_in_conflict st b row) (λ row e. ap (λ w. w && conflicts (is_take b.form) b.transaction row) e) st.rows (k.wants b))

pub stirred_after : (st : State) (act : Step) (steady : Bool) (before within : Option (List ℕ)) → (steady ≡ true → IsSteady st) → Rising row_number st.rows → is_legal st act ≡ true → are_stirred before st ≡ true
    → (ends_any st act ≡ true → (steady && frees_any st act) ≡ false → within ≡ None) → list_all (λ r. not (ends_conflict st act r) || are_named_for st within r) st.rows ≡ true → ((n : ℕ) → is_offered before n ≡ true → is_offered within n ≡ true)
    → are_stirred within (next st act) ≡ true
stirred_after st act steady before within known rise legal old any named keeps = go (steady && frees_any st act) refl
  where
    go : (d : Bool) → (steady && frees_any st act) ≡ d → are_stirred within (next st act) ≡ true
    go true e =
        let both = and_parts steady (frees_any st act) e in
        more_stirred (next st act) before within keeps (stirred_alike st (next st act) before (declaring_stays st act (known both.0) both.1) old)
    go false e = stirred_otherwise st act before within rise legal old (λ k. any k e) named keeps

-- ---- whole or not at all

pub stirred_either : {T E : Type 0} (result : Result T E) (st : State) (act : Step) (new : State) (steady : Bool) (before within : Option (List ℕ)) → (steady ≡ true → IsSteady st) → OnOk result (new ≡ next st act) → OnErr result (new ≡ st)
    → are_rising 0 st.next_number (map row_number st.rows) ≡ true → is_legal st act ≡ true → are_stirred before st ≡ true → (ends_any st act ≡ true → (steady && frees_any st act) ≡ false → within ≡ None)
    → list_all (λ r. not (ends_conflict st act r) || are_named_for st within r) st.rows ≡ true → ((n : ℕ) → is_offered before n ≡ true → is_offered within n ≡ true) → are_stirred within new ≡ true
stirred_either (Ok t) st act new steady before within known ok err up legal old any named keeps =
    subst (λ w. are_stirred within w ≡ true) (sym ok) (stirred_after st act steady before within known (rising_from row_number 0 st.next_number st.rows up) legal old any named keeps)
stirred_either (Err e) st act new steady before within known ok err up legal old any named keeps = subst (λ w. are_stirred within w ≡ true) (sym err) (more_stirred st before within keeps old)

-- ---- a session that is closed, and answers that are handed out

pub stirred_shut : (st : State) (s : ℕ) (o : Option (List ℕ)) → are_stirred o st ≡ true → are_stirred o (close st s) ≡ true
stirred_shut st s o h = all_kept _ (λ (b : Blocked). not (b.session == s)) st.blocked h

pub stirred_handed : {T E : Type 0} (result : Result T E) (st : State) (s count : ℕ) (new : State) (o : Option (List ℕ)) → OnOk result (new ≡ after_handing st s count) → OnErr result (new ≡ st) → are_stirred o st ≡ true → are_stirred o new ≡ true
stirred_handed (Ok t) st s count new o ok err h = subst (λ w. are_stirred o w ≡ true) (sym ok) h
stirred_handed (Err e) st s count new o ok err h = subst (λ w. are_stirred o w ≡ true) (sym err) h

-- ---- whom a row stirs

-- each row has stirred those who ask for it, where any request is stirred
pub any_named : (t : Row → Bool) (st : State) (o : Option (List ℕ)) → o ≡ None → list_all (λ r. not (t r) || are_named_for st o r) st.rows ≡ true
any_named t st o e = all_that _ st.rows (λ r h. or_right (not (t r)) (are_named_for st o r) (all_that _ st.blocked (λ b k. or_right (not (waits_for st.classes r b)) (is_offered o b.number) (ap (λ w. is_offered w b.number) e))))

pub not_any : (a b : Bool) → a ≡ not b → a ≡ true → b ≡ false
not_any a true e k = absurd (true≢false (sym k ∙ e))
not_any a false e k = refl

-- where no request waits for a conflict to end
pub none_to_name : (t : Row → Bool) (st : State) (o : Option (List ℕ)) → list_any (λ b. is_if b.form) st.blocked ≡ false → list_all (λ r. not (t r) || are_named_for st o r) st.rows ≡ true
none_to_name t st o none = all_that _ st.rows (λ r h. or_right (not (t r)) (are_named_for st o r) (all st.blocked none r))
  where
    all : (bs : List Blocked) → list_any (λ (b : Blocked). is_if b.form) bs ≡ false → (r : Row) → list_all (λ b. not (waits_for st.classes r b) || is_offered o b.number) bs ≡ true
    all [] e r = refl
    all (b ∷ bs) e r = let parts = or_parts (is_if b.form) (list_any (λ (b : Blocked). is_if b.form) bs) e in rw parts.0 (all bs parts.1 r)

-- what is named stays named
pub still_named : (st : State) (o p : Option (List ℕ)) → ((n : ℕ) → is_offered o n ≡ true → is_offered p n ≡ true) → (r : Row) → are_named_for st o r ≡ true → are_named_for st p r ≡ true
still_named st o p more r h = all_that _ st.blocked (λ b k. go b (waits_for st.classes r b) (one_of_all (λ b. not (waits_for st.classes r b) || is_offered o b.number) st.blocked b h k))
  where
    go : (b : Blocked) (w : Bool) → (not w || is_offered o b.number) ≡ true → (not w || is_offered p b.number) ≡ true
    go b true e = more b.number e
    go b false e = refl

-- whoever passes one of two tests
pub both_named : (st : State) (t u : Row → Bool) (o p : Option (List ℕ)) → ((n : ℕ) → is_offered o n ≡ true → is_offered p n ≡ true)
    → list_all (λ r. not (t r) || are_named_for st o r) st.rows ≡ true → list_all (λ r. not (u r) || are_named_for st p r) st.rows ≡ true → list_all (λ r. not (t r || u r) || are_named_for st p r) st.rows ≡ true
both_named st t u o p more h k = all_that _ st.rows (λ r there. go r (t r) (u r) (one_of_all (λ r. not (t r) || are_named_for st o r) st.rows r h there) (one_of_all (λ r. not (u r) || are_named_for st p r) st.rows r k there))
  where
    go : (r : Row) (a b : Bool) → (not a || are_named_for st o r) ≡ true → (not b || are_named_for st p r) ≡ true → (not (a || b) || are_named_for st p r) ≡ true
    go r true b e f = still_named st o p more r e
    go r false true e f = f
    go r false false e f = refl

-- a test that passes where another does
pub named_as : (st : State) (t u : Row → Bool) (o : Option (List ℕ)) → ((r : Row) → t r ≡ u r) → list_all (λ r. not (u r) || are_named_for st o r) st.rows ≡ true → list_all (λ r. not (t r) || are_named_for st o r) st.rows ≡ true
named_as st t u o same h = all_that _ st.rows (λ r there. ap (λ d. not d || are_named_for st o r) (same r) ∙ one_of_all (λ r. not (u r) || are_named_for st o r) st.rows r h there)

pub none_passes : (st : State) (t : Row → Bool) (o : Option (List ℕ)) → ((r : Row) → t r ≡ false) → list_all (λ r. not (t r) || are_named_for st o r) st.rows ≡ true
none_passes st t o none = all_that _ st.rows (λ r there. ap (λ d. not d || are_named_for st o r) (none r))

-- what is held is among the numbers
pub named_among : (st : State) (t : Row → Bool) (ns : List ℕ) (o : Option (List ℕ)) → list_all (λ r. not (t r) || contains ns r.number) st.rows ≡ true → list_all (λ r. not (contains ns r.number) || are_named_for st o r) st.rows ≡ true
    → list_all (λ r. not (t r) || are_named_for st o r) st.rows ≡ true
named_among st t ns o h k = all_that _ st.rows (λ r there. go r (t r) (one_of_all (λ r. not (t r) || contains ns r.number) st.rows r h there) (one_of_all (λ r. not (contains ns r.number) || are_named_for st o r) st.rows r k there))
  where
    go : (r : Row) (a : Bool) → (not a || contains ns r.number) ≡ true → (not (contains ns r.number) || are_named_for st o r) ≡ true → (not a || are_named_for st o r) ≡ true
    go r true e f = one_that (contains ns r.number) (are_named_for st o r) f e
    go r false e f = refl

-- ---- the row of a number

-- who asks for a row asks for that of its number, whatever the marks on it
row_is : (st : State) (n : ℕ) (row r : Row) → are_rising 0 st.next_number (map row_number st.rows) ≡ true → option_map unmarked (Some row) ≡ option_map unmarked (find (λ (q : Row). q.number == n) st.rows) → Has st.rows r → (r.number == n) ≡ true → unmarked row ≡ unmarked r
row_is st n row r up is there e =
    let same : r.number ≡ n = eqb-true r.number n e in
    let found : find (λ (q : Row). q.number == n) st.rows ≡ Some r = subst (λ m. find (λ (q : Row). q.number == m) st.rows ≡ Some r) same (found_row 0 st.next_number st.rows r up there) in
    some_same (is ∙ ap (option_map unmarked) found)
  where
    some_same : {a b : Row} → Some a ≡ Some b → a ≡ b
    some_same e = cc

pub named_by_row : (st : State) (n : ℕ) (row : Row) (o : Option (List ℕ)) → are_rising 0 st.next_number (map row_number st.rows) ≡ true → option_map unmarked (Some row) ≡ option_map unmarked (find (λ (q : Row). q.number == n) st.rows)
    → list_all (λ b. not (waits_for st.classes row b) || is_offered o b.number) st.blocked ≡ true → list_all (λ r. not (r.number == n) || are_named_for st o r) st.rows ≡ true
named_by_row st n row o up is h = all_that _ st.rows (λ r there. go r there (r.number == n) refl)
  where
    go : (r : Row) → Has st.rows r → (d : Bool) → (r.number == n) ≡ d → (not d || are_named_for st o r) ≡ true
    go r there true e = subst (λ (q : Row). list_all (λ b. not (waits_for st.classes q b) || is_offered o b.number) st.blocked ≡ true) (row_is st n row r up is there e) h
    go r there false e = refl

pub named_in_none : (st : State) (n : ℕ) (o : Option (List ℕ)) → are_rising 0 st.next_number (map row_number st.rows) ≡ true → None ≡ option_map unmarked (find (λ (q : Row). q.number == n) st.rows) → list_all (λ r. not (r.number == n) || are_named_for st o r) st.rows ≡ true
named_in_none st n o up is = all_that _ st.rows (λ r there. go r there (r.number == n) refl)
  where
    go : (r : Row) → Has st.rows r → (d : Bool) → (r.number == n) ≡ d → (not d || are_named_for st o r) ≡ true
    go r there true e =
        let same : r.number ≡ n = eqb-true r.number n e in
        let found : find (λ (q : Row). q.number == n) st.rows ≡ Some r = subst (λ m. find (λ (q : Row). q.number == m) st.rows ≡ Some r) same (found_row 0 st.next_number st.rows r up there) in
        let none : None ≡ Some (unmarked r) = is ∙ ap (option_map unmarked) found in
        absurd (cc none)
    go r there false e = refl

-- those of the numbers are among the offers
pub offered_all : (st : State) (row : Row) (ns : List ℕ) (o : Option (List ℕ)) → list_all (λ b. not (waits_for st.classes row b) || contains ns b.number) st.blocked ≡ true → ((n : ℕ) → contains ns n ≡ true → is_offered o n ≡ true)
    → list_all (λ b. not (waits_for st.classes row b) || is_offered o b.number) st.blocked ≡ true
offered_all st row ns o h more = all_that _ st.blocked (λ b there. go b (waits_for st.classes row b) (one_of_all (λ b. not (waits_for st.classes row b) || contains ns b.number) st.blocked b h there))
  where
    go : (b : Blocked) (d : Bool) → (not d || contains ns b.number) ≡ true → (not d || is_offered o b.number) ≡ true
    go b true e = more b.number e
    go b false e = refl

pub any_offered : (st : State) (row : Row) (o : Option (List ℕ)) → o ≡ None → list_all (λ b. not (waits_for st.classes row b) || is_offered o b.number) st.blocked ≡ true
any_offered st row o e = all_that _ st.blocked (λ b there. or_right (not (waits_for st.classes row b)) (is_offered o b.number) (ap (λ w. is_offered w b.number) e))

-- ---- one number after another

same_either : (a b : ℕ) → (a == b) ≡ (b == a)
same_either a b = at (a == b) refl
  where
    at : (d : Bool) → (a == b) ≡ d → d ≡ (b == a)
    at true e = sym (eq-eqb b a (sym (eqb-true a b e)))
    at false e = sym (ne_eqb b a (λ k. true≢false (sym (eq-eqb a b (sym k)) ∙ e)))

contains_end : (xs : List ℕ) (x n : ℕ) → contains (xs ++ x ∷ []) n ≡ (contains xs n || n == x)
contains_end [] x n = last (x == n) ∙ same_either x n
  where
    last : (d : Bool) → (d || false) ≡ d
    last true = refl
    last false = refl
contains_end (y ∷ xs) x n = at (y == n) (contains_end xs x n)
  where
    at : (d : Bool) → contains (xs ++ x ∷ []) n ≡ (contains xs n || n == x) → (d || contains (xs ++ x ∷ []) n) ≡ ((d || contains xs n) || n == x)
    at true e = refl
    at false e = e

pub one_more : (st : State) (ns : List ℕ) (i : ℕ) (o p : Option (List ℕ)) → i < length ns → ((n : ℕ) → is_offered o n ≡ true → is_offered p n ≡ true)
    → list_all (λ r. not (contains (take i ns) r.number) || are_named_for st o r) st.rows ≡ true → list_all (λ r. not (r.number == slice_index ns i) || are_named_for st p r) st.rows ≡ true
    → list_all (λ r. not (contains (take (i + 1) ns) r.number) || are_named_for st p r) st.rows ≡ true
one_more st ns i o p lt more h k =
    named_as st (λ (r : Row). contains (take (i + 1) ns) r.number) (λ (r : Row). contains (take i ns) r.number || r.number == slice_index ns i) p
    (λ r. ap (λ w. contains w r.number) (take_more ns i 0 lt) ∙ contains_end (take i ns) (slice_index ns i) r.number)
    (both_named st (λ (r : Row). contains (take i ns) r.number) (λ (r : Row). r.number == slice_index ns i) o p more h k)

-- ---- leases that are cancelled together

both_offered : (r : Row) (a b : Bool) (o p : Option (List ℕ)) → ((n : ℕ) → is_offered o n ≡ true → is_offered p n ≡ true) → (not a || is_offered o r.number) ≡ true → (not b || is_offered p r.number) ≡ true → (not (a || b) || is_offered p r.number) ≡ true
both_offered r true b o p further e f = further r.number e
both_offered r false true o p further e f = f
both_offered r false false o p further e f = refl

either : (a b : Bool) → (a || b) ≡ true → (a ≡ true) ⊎ (b ≡ true)
either true b e = inl refl
either false b e = inr e

any_wider : {A : Type 0} (t u : A → Bool) → ((x : A) → t x ≡ true → u x ≡ true) → (xs : List A) → list_any t xs ≡ true → list_any u xs ≡ true
any_wider t u f [] h = absurd (true≢false (sym h))
any_wider {A = A} t u f (x ∷ xs) h = go (either (t x) (list_any t xs) h) (any_wider t u f xs)
  where
    go : (t x ≡ true) ⊎ (list_any t xs ≡ true) → (list_any t xs ≡ true → list_any u xs ≡ true) → (u x || list_any u xs) ≡ true
    go (inl e) ih = rw (f x e) refl
    go (inr e) ih = or_right (u x) (list_any u xs) (ih e)

or_left : (a b : Bool) → a ≡ true → (a || b) ≡ true
or_left true b e = refl
or_left false b e = absurd (true≢false (sym e))

-- what is let go or ends is touched by a lease, or passes one of two other tests
pub is_named_once : (st : State) (act : Step) (u e : Row → Bool) (first mid last : Option (List ℕ)) → ((n : ℕ) → is_offered first n ≡ true → is_offered mid n ≡ true) → ((n : ℕ) → is_offered mid n ≡ true → is_offered last n ≡ true)
    → ((r : Row) → frees st act r ≡ (is_marked_by (cancelled act) r || u r)) → ((r : Row) → ends act r ≡ (is_leased (cancelled act) r || e r))
    → list_all (λ r. not (is_touched_by (cancelled act) r) || are_named_for st first r) st.rows ≡ true → list_all (λ r. not (u r) || are_named_for st mid r) st.rows ≡ true → list_all (λ r. not (e r) || are_named_for st last r) st.rows ≡ true
    → list_all (λ r. not (ends_conflict st act r) || are_named_for st last r) st.rows ≡ true
is_named_once st act u e first mid last more further freed ended h k l = all_that _ st.rows (λ r there. go r there (ends_conflict st act r) refl)
  where
    touched : (r : Row) → Has st.rows r → is_touched_by (cancelled act) r ≡ true → are_named_for st last r ≡ true
    touched r there c =
        still_named st first last (λ n m. further n (more n m)) r (one_that (is_touched_by (cancelled act) r) (are_named_for st first r) (one_of_all (λ r. not (is_touched_by (cancelled act) r) || are_named_for st first r) st.rows r h there) c)

    by : (r : Row) → Has st.rows r → (frees st act r ≡ true) ⊎ (ends act r ≡ true) → are_named_for st last r ≡ true
    by r there (inl c) = part (either (is_marked_by (cancelled act) r) (u r) (sym (freed r) ∙ c))
      where
        part : (is_marked_by (cancelled act) r ≡ true) ⊎ (u r ≡ true) → are_named_for st last r ≡ true
        part (inl m) = touched r there (any_wider (λ l. is_marked (named l) r) (λ l. is_marked (named l) r || r.number == named l) (λ x t. or_left (is_marked (named x) r) (r.number == named x) t) (cancelled act) m)
        part (inr m) = still_named st mid last further r (one_that (u r) (are_named_for st mid r) (one_of_all (λ r. not (u r) || are_named_for st mid r) st.rows r k there) m)
    by r there (inr c) = part (either (is_leased (cancelled act) r) (e r) (sym (ended r) ∙ c))
      where
        part : (is_leased (cancelled act) r ≡ true) ⊎ (e r ≡ true) → are_named_for st last r ≡ true
        part (inl m) = touched r there (any_wider (λ l. r.number == named l) (λ l. is_marked (named l) r || r.number == named l) (λ x t. or_right (is_marked (named x) r) (r.number == named x) t) (cancelled act) m)
        part (inr m) = one_that (e r) (are_named_for st last r) (one_of_all (λ r. not (e r) || are_named_for st last r) st.rows r l there) m

    go : (r : Row) → Has st.rows r → (d : Bool) → ends_conflict st act r ≡ d → (not d || are_named_for st last r) ≡ true
    go r there true c = by r there (either (frees st act r) (ends act r) c)
    go r there false c = refl

-- marks in all spaces
pub everywhere : (u : Unmarking) (n : ℕ) (r : Row) → u.space ≡ None → u.transaction ≡ n → is_unmarked u r ≡ is_marked n r
everywhere u n r s t = ap (λ (o : Option ℕ). option_map_or (λ s. r.space == s) o true && is_marked u.transaction r) s ∙ ap (λ (x : ℕ). is_marked x r) t

any_end : {A : Type 0} (t : A → Bool) (xs : List A) (x : A) → list_any t (xs ++ x ∷ []) ≡ (list_any t xs || t x)
any_end t [] x = last (t x)
  where
    last : (d : Bool) → (d || false) ≡ d
    last true = refl
    last false = refl
any_end {A = A} t (y ∷ xs) x = at (t y) (any_end t xs x)
  where
    at : (d : Bool) → list_any t (xs ++ x ∷ []) ≡ (list_any t xs || t x) → (d || list_any t (xs ++ x ∷ [])) ≡ ((d || list_any t xs) || t x)
    at true e = refl
    at false e = e

pub one_more_touched : (st : State) (leases more : List ℤ) (x : ℤ) (o p : Option (List ℕ)) → more ≡ leases ++ x ∷ [] → ((n : ℕ) → is_offered o n ≡ true → is_offered p n ≡ true)
    → list_all (λ r. not (is_touched_by leases r) || are_named_for st o r) st.rows ≡ true → list_all (λ r. not (is_marked (named x) r || r.number == named x) || are_named_for st p r) st.rows ≡ true
    → list_all (λ r. not (is_touched_by more r) || are_named_for st p r) st.rows ≡ true
one_more_touched st leases more x o p e further h k =
    named_as st (is_touched_by more) (λ r. is_touched_by leases r || (is_marked (named x) r || r.number == named x)) p (λ r. ap (λ w. is_touched_by w r) e ∙ any_end (λ l. is_marked (named l) r || r.number == named l) leases x)
    (both_named st (is_touched_by leases) (λ r. is_marked (named x) r || r.number == named x) o p further h k)

-- the same of what is offered
pub one_more_marked : (rows : List Row) (leases more : List ℤ) (x : ℤ) (o p : Option (List ℕ)) → more ≡ leases ++ x ∷ [] → ((n : ℕ) → is_offered o n ≡ true → is_offered p n ≡ true)
    → list_all (λ r. not (is_marked_by leases r) || is_offered o r.number) rows ≡ true → list_all (λ r. not (is_marked (named x) r) || is_offered p r.number) rows ≡ true
    → list_all (λ r. not (is_marked_by more r) || is_offered p r.number) rows ≡ true
one_more_marked rows leases more x o p e further h k =
    all_that _ rows (λ r there. ap (λ d. not d || is_offered p r.number) (ap (λ w. is_marked_by w r) e ∙ any_end (λ l. is_marked (named l) r) leases x)
    ∙ both_offered r (is_marked_by leases r) (is_marked (named x) r) o p further (one_of_all _ rows r h there) (one_of_all _ rows r k there))

pub none_marked : (rows : List Row) (o : Option (List ℕ)) → list_all (λ r. not (is_marked_by [] r) || is_offered o r.number) rows ≡ true
none_marked rows o = all_that _ rows (λ r there. refl)

pub none_touched : (st : State) (o : Option (List ℕ)) → list_all (λ r. not (is_touched_by [] r) || are_named_for st o r) st.rows ≡ true
none_touched st o = all_that _ st.rows (λ r there. refl)

pub both_let_go : (rows : List Row) (f t u : Row → Bool) (o p : Option (List ℕ)) → ((r : Row) → f r ≡ (t r || u r)) → ((n : ℕ) → is_offered o n ≡ true → is_offered p n ≡ true)
    → list_all (λ r. not (t r) || is_offered o r.number) rows ≡ true → list_all (λ r. not (u r) || is_offered p r.number) rows ≡ true → list_all (λ r. not (f r) || is_offered p r.number) rows ≡ true
both_let_go rows f t u o p same further h k =
    all_that _ rows (λ r there. ap (λ d. not d || is_offered p r.number) (same r) ∙ both_offered r (t r) (u r) o p further (one_of_all (λ r. not (t r) || is_offered o r.number) rows r h there) (one_of_all (λ r. not (u r) || is_offered p r.number) rows r k there))

pub none_yet : (st : State) (o : Option (List ℕ)) → list_all (λ r. not (contains [] r.number) || are_named_for st o r) st.rows ≡ true
none_yet st o = all_that _ st.rows (λ r there. refl)
