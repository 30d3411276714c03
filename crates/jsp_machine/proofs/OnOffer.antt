-- After a step each row that a waiting request may be given is on offer: it was before, or the step let it go, or it is new.
use Rattle.std.proofs.Common.{◌≡◌, ◌≢◌, refl, sym, ap, ◌∙◌, subst, ℕ, ◌≤◌, ◌<◌, ◌⊎◌, inl, inr, List, [], ◌∷◌, map, filter, length, Bool, true, false, not, cond, ◌||◌, ◌&&◌, if◌then◌else◌, ◌==◌, Option, None, nat_lt, true≢false, eqb-true, arith}
use Rattle.std.specs.Prelude.{Result, Ok, Err, OnOk, OnErr}
use Rattle.std.specs.List.{list_all}
use Rattle.std.proofs.lemmas.Bool.{and_parts, and_from, ltb-true, false_from_ne_true}
use Rattle.jsp_model.specs.declared.state.State.{State}
use Rattle.jsp_model.specs.declared.state.Row.{Row}
use Rattle.jsp_model.specs.declared.state.Blocked.{Blocked}
use Rattle.jsp_model.specs.declared.step.Step.{Step}
use Rattle.jsp_model.specs.Lookup.{contains}
use Rattle.jsp_model.specs.Sight.{is_take, wants, takeable, readable, is_available}
use Rattle.jsp_model.specs.Quiet.{must_wait}
use Rattle.jsp_model.specs.Changes.{close}
use Rattle.jsp_model.specs.Steps.{next}
use Rattle.jsp_model.specs.Limits.{IsWithinLimits, are_rising}
use Rattle.jsp_laws.proofs.Lists.{Each, Has, each_by_all, each_has, each_itself, each_weaker, all_kept}
use Rattle.jsp_quiet.specs.Freeing.{frees, frees_any, AsksAlike, WasThere}
use Rattle.jsp_quiet.specs.Steady.{IsSteady}
use Rattle.jsp_quiet.proofs.Waking.{waiting_comes}
use Rattle.jsp_quiet.proofs.Freeing.{free_comes}
use Rattle.jsp_quiet.proofs.Declaring.{declaring_stays}
use Rattle.jsp_core.specs.Offering.{is_offered, are_offered}
use Rattle.jsp_state.specs.Outboxes.{after_handing}

-- ---- lists

all_by_each : {A : Type 0} (t : A → Bool) (xs : List A) → Each (λ x. t x ≡ true) xs → list_all t xs ≡ true
all_by_each t [] h = refl
all_by_each t (x ∷ xs) (h, hs) = and_from (t x) (list_all t xs) h (all_by_each t xs hs)

-- what is said of each that the list has
pub all_that : {A : Type 0} (t : A → Bool) (xs : List A) → ((x : A) → Has xs x → t x ≡ true) → list_all t xs ≡ true
all_that t xs h = all_by_each t xs (each_weaker (Has xs) (λ x. t x ≡ true) h xs (each_itself xs))

pub one_of_all : {A : Type 0} (t : A → Bool) (xs : List A) (x : A) → list_all t xs ≡ true → Has xs x → t x ≡ true
one_of_all t xs x h k = each_has (λ x. t x ≡ true) xs x (each_by_all t xs h) k

below_top : {A : Type 0} (f : A → ℕ) (low high : ℕ) (xs : List A) → are_rising low high (map f xs) ≡ true → low < high × Each (λ x. f x < high) xs
below_top f low high [] h = (ltb-true low high h, tt)
below_top f low high (x ∷ xs) h =
    let parts = and_parts (nat_lt low (f x)) (are_rising (f x) high (map f xs)) h in
    let rest = below_top f (f x) high xs parts.1 in
    let first : low < f x = ltb-true low (f x) parts.0 in
    (omega (arith, first, rest.0), (rest.0, rest.1))

-- ---- who may be given a row needn't wait

given_some : (st : State) (b : Blocked) (rows : List Row) (r : Row) → Has rows r → is_available st b r ≡ true → (length (map (λ r. r.number) (filter (is_available st b) rows)) == 0) ≡ false
given_some st b [] r h e = absurd h
given_some st b (q ∷ rows) r h e = go (is_available st b q) refl h (given_some st b rows r)
  where
    some : (n : ℕ) (ns : List ℕ) → (length (n ∷ ns) == 0) ≡ false
    some n ns = false_from_ne_true (length (n ∷ ns) == 0) (λ k. let w : length (n ∷ ns) ≡ 0 = eqb-true (length (n ∷ ns)) 0 k in omega (arith, w))

    go : (d : Bool) → is_available st b q ≡ d → Has (q ∷ rows) r → (Has rows r → is_available st b r ≡ true → (length (map (λ r. r.number) (filter (is_available st b) rows)) == 0) ≡ false)
        → (length (map (λ r. r.number) (cond d (q ∷ filter (is_available st b) rows) (filter (is_available st b) rows))) == 0) ≡ false
    go true k h ih = some q.number (map (λ r. r.number) (filter (is_available st b) rows))
    go false k (inl s) ih = let w : is_available st b q ≡ true = ap (is_available st b) s ∙ e in absurd (true≢false (sym w ∙ k))
    go false k (inr h) ih = ih h e

needs_not : (st : State) (b : Blocked) (r : Row) → Has st.rows r → is_available st b r ≡ true → must_wait st b ≡ false
needs_not st b r h e = let some = given_some st b st.rows r h e in rw some refl

-- ---- over a step

-- what the offers before it and after it are, and what is added between
pub record Offered (st : State) (act : Step) (steady : Bool) (before within after : Option (List ℕ)) : Type 0 where
  pub old : are_offered before st ≡ true
  pub any : frees_any st act ≡ true → steady ≡ false → within ≡ None
  pub known : steady ≡ true → IsSteady st
  pub freed : st.blocked ≢ [] → list_all (λ r. not (frees st act r) || is_offered within r.number) st.rows ≡ true
  pub keeps : (n : ℕ) → is_offered before n ≡ true → is_offered within n ≡ true
  pub new : (n : ℕ) → st.next_number ≤ n → n < (next st act).next_number → is_offered after n ≡ true
  pub stays : (n : ℕ) → is_offered within n ≡ true → is_offered after n ≡ true

some_has : {A : Type 0} (xs : List A) (x : A) → Has xs x → xs ≢ []
some_has [] x h e = absurd h
some_has (y ∷ ys) x h e = absurd (cc)

pub or_right : (a b : Bool) → b ≡ true → (a || b) ≡ true
or_right true b e = refl
or_right false b e = e

pub one_that : (a b : Bool) → (not a || b) ≡ true → a ≡ true → b ≡ true
one_that true b h e = h
one_that false b h e = absurd (true≢false (sym e))

was_offered : (st : State) (o : Option (List ℕ)) (b : Blocked) (r : Row) → are_offered o st ≡ true → Has st.blocked b → Has st.rows r → is_available st b r ≡ true → is_offered o r.number ≡ true
was_offered st o b r h in_blocked in_rows e =
    let all = one_of_all (λ b. list_all (λ r. not (is_available st b r) || is_offered o r.number) st.rows) st.blocked b h in_blocked in
    one_that (is_available st b r) (is_offered o r.number) (one_of_all (λ r. not (is_available st b r) || is_offered o r.number) st.rows r all in_rows) e

-- where the same requests want the same rows, the same rows are for them
offered_alike : (st after : State) (o : Option (List ℕ)) → AsksAlike st after → are_offered o st ≡ true → are_offered o after ≡ true
offered_alike st after o k h = all_that _ after.blocked (λ b in_blocked. all_that _ after.rows (λ r in_rows. each b r in_blocked in_rows (is_available after b r) refl))
  where
    each : (b : Blocked) (r : Row) → Has after.blocked b → Has after.rows r → (d : Bool) → is_available after b r ≡ d → (not d || is_offered o r.number) ≡ true
    each b r in_blocked in_rows true e =
        let there : Has st.rows r = subst (λ rows. Has rows r) k.rows in_rows in
        let same : wants after b r ≡ wants st b r = each_has (λ (row : Row). wants after b row ≡ wants st b row) st.rows r (k.wants b) there in
        was_offered st o b r h (subst (λ bs. Has bs b) k.blocked in_blocked) there
        (sym (ap (λ w. w && (if is_take b.form then takeable b.transaction r else readable b.transaction r)) same) ∙ e)
    each b r in_blocked in_rows false e = refl

more_offered : (st : State) (o p : Option (List ℕ)) → ((n : ℕ) → is_offered o n ≡ true → is_offered p n ≡ true) → are_offered o st ≡ true → are_offered p st ≡ true
more_offered st o p more h =
    all_that _ st.blocked (λ b in_blocked. all_that _ st.rows (λ r in_rows. go r (is_available st b r) (one_of_all (λ r. not (is_available st b r) || is_offered o r.number) st.rows r (one_of_all _ st.blocked b h in_blocked) in_rows)))
  where
    go : (r : Row) (d : Bool) → (not d || is_offered o r.number) ≡ true → (not d || is_offered p r.number) ≡ true
    go r true k = more r.number k
    go r false k = refl

-- but for a declaration from a steady state
offered_otherwise : (st : State) (act : Step) (steady : Bool) (before within after : Option (List ℕ)) → IsWithinLimits (next st act) → Offered st act steady before within after → (frees_any st act ≡ true → within ≡ None) → are_offered after (next st act) ≡ true
offered_otherwise st act steady before within after limits o opened =
    all_that _ (next st act).blocked (λ b in_blocked. all_that _ (next st act).rows (λ r in_rows. each b r in_blocked in_rows (is_available (next st act) b r) refl))
  where
    below : (r : Row) → Has (next st act).rows r → r.number < (next st act).next_number
    below r h = each_has (λ (r : Row). r.number < (next st act).next_number) (next st act).rows r (below_top (λ (r : Row). r.number) 0 (next st act).next_number (next st act).rows limits.rows.rising).1 h

    some : (b : Blocked) (r : Row) → Has (next st act).blocked b → Has (next st act).rows r → is_available (next st act) b r ≡ true → (d : Bool) → frees_any st act ≡ d → is_offered after r.number ≡ true
    some b r in_blocked in_rows e true any = o.stays r.number (subst (λ w. is_offered w r.number ≡ true) (sym (opened any)) refl)
    some b r in_blocked in_rows e false none = came (free_comes st act b r none in_rows e)
      where
        there : (w : WasThere st act b r) → (frees st act w.was ≡ true) ⊎ (is_available st b w.was ≡ true) → Has st.blocked b ⊎ ((st.next_number ≤ b.number) × (must_wait (next st act) b ≡ true)) → is_offered after w.was.number ≡ true
        there w (inl f) (inl old) = o.stays w.was.number (one_that (frees st act w.was) (is_offered within w.was.number) (one_of_all (λ r. not (frees st act r) || is_offered within r.number) st.rows w.was (o.freed (some_has st.blocked b old)) w.there) f)
        there w (inr a) (inl old) = o.stays w.was.number (o.keeps w.was.number (was_offered st before b w.was o.old old w.there a))
        there w free (inr new) = absurd (true≢false (sym new.1 ∙ needs_not (next st act) b r in_rows e))

        came : (st.next_number ≤ r.number) ⊎ WasThere st act b r → is_offered after r.number ≡ true
        came (inl new) = o.new r.number new (below r in_rows)
        came (inr w) = subst (λ n. is_offered after n ≡ true) w.number (there w w.free (waiting_comes st act b in_blocked))

    each : (b : Blocked) (r : Row) → Has (next st act).blocked b → Has (next st act).rows r → (d : Bool) → is_available (next st act) b r ≡ d → (not d || is_offered after r.number) ≡ true
    each b r in_blocked in_rows true e = some b r in_blocked in_rows e (frees_any st act) refl
    each b r in_blocked in_rows false e = refl

pub offered_after : (st : State) (act : Step) (steady : Bool) (before within after : Option (List ℕ)) → IsWithinLimits (next st act) → Offered st act steady before within after → are_offered after (next st act) ≡ true
offered_after st act true before within after limits o = by_declaring (frees_any st act) refl
  where
    by_declaring : (d : Bool) → frees_any st act ≡ d → are_offered after (next st act) ≡ true
    by_declaring true e = more_offered (next st act) before after (λ n h. o.stays n (o.keeps n h)) (offered_alike st (next st act) before (declaring_stays st act (o.known refl) e) o.old)
    by_declaring false e = offered_otherwise st act true before within after limits o (λ k. absurd (true≢false (sym k ∙ e)))
offered_after st act false before within after limits o = offered_otherwise st act false before within after limits o (λ e. o.any e refl)

-- ---- whole or not at all

pub offered_either : {T E : Type 0} (result : Result T E) (st : State) (act : Step) (new : State) (steady : Bool) (before within after : Option (List ℕ)) → (steady ≡ true → IsSteady st) → IsWithinLimits new → OnOk result (new ≡ next st act) → OnErr result (new ≡ st)
    → are_offered before st ≡ true → (frees_any st act ≡ true → steady ≡ false → within ≡ None) → (st.blocked ≢ [] → list_all (λ r. not (frees st act r) || is_offered within r.number) st.rows ≡ true)
    → ((n : ℕ) → is_offered before n ≡ true → is_offered within n ≡ true) → ((n : ℕ) → st.next_number ≤ n → n < new.next_number → is_offered after n ≡ true) → ((n : ℕ) → is_offered within n ≡ true → is_offered after n ≡ true)
    → are_offered after new ≡ true
offered_either (Ok t) st act new steady before within after known limits ok err old any freed keeps added stays =
    subst (λ w. are_offered after w ≡ true) (sym ok)
    (offered_after st act steady before within after (subst IsWithinLimits ok limits) (record { old = old; any = any; known = known; freed = freed; keeps = keeps; new = λ n l h. added n l (subst (λ w. n < w.next_number) (sym ok) h); stays = stays }))
offered_either (Err e) st act new steady before within after known limits ok err old any freed keeps added stays =
    subst (λ w. are_offered after w ≡ true) (sym err) (more_offered st before after (λ n h. stays n (keeps n h)) old)

-- ---- rows that pass a test are put on offer

pub all_opened : (t : Row → Bool) (o : Option (List ℕ)) (rows : List Row) → o ≡ None → list_all (λ r. not (t r) || is_offered o r.number) rows ≡ true
all_opened t o rows e = all_that _ rows (λ r h. or_right (not (t r)) (is_offered o r.number) (ap (λ w. is_offered w r.number) e))

pub none_freed : (t : Row → Bool) (o : Option (List ℕ)) (rows : List Row) → ((r : Row) → t r ≡ false) → list_all (λ r. not (t r) || is_offered o r.number) rows ≡ true
none_freed t o rows none = all_that _ rows (λ r h. ap (λ b. not b || is_offered o r.number) (none r))

pub all_added : (t : Row → Bool) (ns : List ℕ) (o : Option (List ℕ)) (rows : List Row) → list_all (λ r. not (t r) || contains ns r.number) rows ≡ true → ((n : ℕ) → contains ns n ≡ true → is_offered o n ≡ true)
    → list_all (λ r. not (t r) || is_offered o r.number) rows ≡ true
all_added t ns o rows h more = all_that _ rows (λ r k. go r (t r) (one_of_all (λ r. not (t r) || contains ns r.number) rows r h k))
  where
    go : (r : Row) (d : Bool) → (not d || contains ns r.number) ≡ true → (not d || is_offered o r.number) ≡ true
    go r true e = more r.number e
    go r false e = refl

-- ---- a session that is closed

pub offered_shut : (st : State) (s : ℕ) (o : Option (List ℕ)) → are_offered o st ≡ true → are_offered o (close st s) ≡ true
offered_shut st s o h = all_kept _ (λ (b : Blocked). not (b.session == s)) st.blocked h

-- ---- answers that are handed out

pub offered_handed : {T E : Type 0} (result : Result T E) (st : State) (s count : ℕ) (new : State) (o : Option (List ℕ)) → OnOk result (new ≡ after_handing st s count) → OnErr result (new ≡ st) → are_offered o st ≡ true → are_offered o new ≡ true
offered_handed (Ok t) st s count new o ok err h = subst (λ w. are_offered o w ≡ true) (sym ok) h
offered_handed (Err e) st s count new o ok err h = subst (λ w. are_offered o w ≡ true) (sym err) h
