-- Where nothing is due, only a reading of the clock and a lease of no time make something due.
use Rattle.std.proofs.Common.{◌≡◌, refl, sym, ◌∙◌, subst, ℕ, ℤ, ◌+◌, ◌<◌, ◌≤◌, ◌^◌, List, [], ◌∷◌, ◌++◌, map, Bool, true, false, not, cond, filter, drop, min, Option, Some, None, is_some, is_none, unwrap_or, ◌==◌, nat_lt, nat_le, arith, true≢false}
use Rattle.std.specs.List.{list_any}
use Rattle.std.specs.Option.{option_map_or}
use Rattle.std.proofs.lemmas.Bool.{and_parts, or_parts, ltb-true, leb-false, leb-true, eqb-false, not-true}
use Rattle.jsp_types.specs.Tests.{first_that}
use Rattle.jsp_wire.specs.declared.ask.Ask.{Ask}
use Rattle.jsp_wire.specs.declared.ask.Ask.TheVariants as ask
use Rattle.jsp_reply.specs.declared.refusal.Refusal.{Refusal}
use Rattle.jsp_model.specs.declared.state.State.{State}
use Rattle.jsp_model.specs.declared.state.Row.{Row}
use Rattle.jsp_model.specs.declared.state.Registration.{Registration}
use Rattle.jsp_model.specs.declared.state.Blocked.{Blocked}
use Rattle.jsp_model.specs.declared.state.Transaction.{Transaction}
use Rattle.jsp_model.specs.declared.state.Joined.{Joined}
use Rattle.jsp_model.specs.declared.state.MatchSet.{MatchSet}
use Rattle.jsp_model.specs.declared.state.Form.TheVariants as form
use Rattle.jsp_lease.specs.declared.item.Item.{Item}
use Rattle.jsp_lease.specs.declared.item.Rank.{Rank}
use Rattle.jsp_lease.specs.declared.item.Rank.TheVariants as rank
use Rattle.jsp_lease.specs.Granted.{granted, ms_of}
use Rattle.jsp_lease.specs.Due.{first_item, over_by}
use Rattle.jsp_model.specs.declared.step.Step.{Step}
use Rattle.jsp_model.specs.declared.step.Step.TheVariants as step
use Rattle.jsp_model.specs.Lookup.{named, is_voting, rank_of, joined_at, blocked_of}
use Rattle.jsp_model.specs.Quiet.{must_wait}
use Rattle.jsp_model.specs.Refusals.{tests, refusal, renew_tests, lease_tests}
use Rattle.jsp_model.specs.Requests.{RowRequest, one_entry, all_entries, one_row, many_rows, as_blocked, would_block, caller_of, place_of}
use Rattle.jsp_model.specs.Changes.{join, give, block, give_or_block, close, commit, abort, cast, extend, remove, renew, cancel, renew_one, cancel_one, accepted}
use Rattle.jsp_model.specs.Steps.{after_ask, is_too_long, after_grant, change, next}
use Rattle.jsp_model.specs.Due.{due, items}
use Rattle.jsp_model.proofs.Ends.{row_item, registration_item, transaction_item, blocked_item, set_item}
use Rattle.jsp_laws.proofs.Lists.{Each, each_weaker, each_map, each_touched, each_append, fold_keeps, fold_keeps_each}
use Rattle.jsp_laws.proofs.Made.{Failed, all_failed}
use Rattle.jsp_quiet.specs.Steady.{IsSteady}
use Rattle.jsp_quiet.specs.Quieting.{is_at_once, ends_at_once, can_make_due}
use Rattle.jsp_quiet.proofs.Lists.{each_parts}
use Rattle.jsp_quiet.proofs.Placed.{choose}
use Rattle.jsp_quiet.proofs.Ends.{Standing, NoneOver, over_close, over_unblock, over_join, over_write, over_give, over_block, over_register, over_open_set, over_begin, over_turn, over_ask_commit, over_abort, over_commit, over_cast, over_reset, over_remove, over_extend}

-- ---- nothing is due where nothing's end has come

none_over : (t : ℕ) (xs : List Item) → first_item (over_by t xs) ≡ None → Each (λ (i : Item). t < i.end) xs
none_over t [] e = tt
none_over t (x ∷ xs) e = go (nat_le x.end t) refl e (none_over t xs)
  where
    go : (b : Bool) → nat_le x.end t ≡ b → first_item (cond b (x ∷ over_by t xs) (over_by t xs)) ≡ None → (first_item (over_by t xs) ≡ None → Each (λ (i : Item). t < i.end) xs) → (t < x.end) × Each (λ (i : Item). t < i.end) xs
    go true k q ih = absurd (cc)
    go false k q ih = (leb-false x.end t k, ih q)

over_none : (t : ℕ) (xs : List Item) → Each (λ (i : Item). t < i.end) xs → first_item (over_by t xs) ≡ None
over_none t [] h = refl
over_none t (x ∷ xs) (h, hs) = go (nat_le x.end t) refl (over_none t xs hs)
  where
    go : (b : Bool) → nat_le x.end t ≡ b → first_item (over_by t xs) ≡ None → first_item (cond b (x ∷ over_by t xs) (over_by t xs)) ≡ None
    go true k ih = let w : x.end ≤ t = leb-true x.end t k in absurd (omega (arith, w, h))
    go false k ih = ih

each_under : {A B : Type 0} (P : B → Type 0) (f : A → B) (xs : List A) → Each P (map f xs) → Each (λ x. P (f x)) xs
each_under P f [] h = tt
each_under P f (x ∷ xs) (h, hs) = (h, each_under P f xs hs)

each_unkept : {A : Type 0} (P : A → Type 0) (t : A → Bool) (xs : List A) → Each P (filter t xs) → Each (λ x. t x ≡ true → P x) xs
each_unkept P t [] h = tt
each_unkept {A = A} P t (x ∷ xs) h = go (t x) refl h (λ k. each_unkept P t xs k)
  where
    go : (b : Bool) → t x ≡ b → Each P (cond b (x ∷ filter t xs) (filter t xs)) → (Each P (filter t xs) → Each (λ x. t x ≡ true → P x) xs) → (t x ≡ true → P x) × Each (λ x. t x ≡ true → P x) xs
    go true e (k, ks) ih = ((λ q. k), ih ks)
    go false e ks ih = ((λ q. absurd (true≢false (sym q ∙ e))), ih ks)

each_again : {A : Type 0} (P : A → Type 0) (t : A → Bool) (xs : List A) → Each (λ x. t x ≡ true → P x) xs → Each P (filter t xs)
each_again P t [] h = tt
each_again {A = A} P t (x ∷ xs) (h, hs) = go (t x) refl (each_again P t xs hs)
  where
    go : (b : Bool) → t x ≡ b → Each P (filter t xs) → Each P (cond b (x ∷ filter t xs) (filter t xs))
    go true e ih = (h e, ih)
    go false e ih = ih

pub over_from : (st : State) → due st ≡ None → NoneOver st.time st
unfolding due
over_from st e =
    let P : Item → Type 0 = λ i. st.time < i.end in
    let a = map row_item st.rows in
    let b = map registration_item st.registrations in
    let c = map transaction_item (filter (λ t. not (is_voting st t.number)) st.transactions) in
    let d = map blocked_item st.blocked in
    let f = map set_item st.sets in
    let four = each_parts P (a ++ b ++ c ++ d) f (none_over st.time (items st) e) in
    let three = each_parts P (a ++ b ++ c) d four.0 in
    let two = each_parts P (a ++ b) c three.0 in
    let one = each_parts P a b two.0 in
    record {
      time = refl;
      rows = each_under P row_item st.rows one.0;
      registrations = each_under P registration_item st.registrations one.1;
      transactions = each_weaker (λ (t : Transaction). not (is_voting st t.number) ≡ true → st.time < t.end) (Standing st.time st.commits) (λ t h k. h (rw k refl)) st.transactions
          (each_unkept (λ (t : Transaction). st.time < t.end) (λ t. not (is_voting st t.number)) st.transactions (each_under P transaction_item (filter (λ t. not (is_voting st t.number)) st.transactions) two.1));
      blocked = each_under P blocked_item st.blocked three.1;
      sets = each_under P set_item st.sets four.1;
    }

pub over_to : (st : State) → NoneOver st.time st → due st ≡ None
unfolding due
over_to st h =
    let P : Item → Type 0 = λ i. st.time < i.end in
    let a = map row_item st.rows in
    let b = map registration_item st.registrations in
    let c = map transaction_item (filter (λ t. not (is_voting st t.number)) st.transactions) in
    let d = map blocked_item st.blocked in
    let f = map set_item st.sets in
    let one = each_map (λ (r : Row). st.time < r.end) P row_item (λ r k. k) st.rows h.rows in
    let two = each_map (λ (r : Registration). st.time < r.end) P registration_item (λ r k. k) st.registrations h.registrations in
    let three = each_map (λ (t : Transaction). st.time < t.end) P transaction_item (λ t k. k) (filter (λ t. not (is_voting st t.number)) st.transactions)
    (each_again (λ (t : Transaction). st.time < t.end) (λ t. not (is_voting st t.number)) st.transactions
    (each_weaker (Standing st.time st.commits) (λ (t : Transaction). not (is_voting st t.number) ≡ true → st.time < t.end) (λ t k q. k (not-true (is_voting st t.number) q)) st.transactions h.transactions)) in
    let four = each_map (λ (x : Blocked). st.time < x.end) P blocked_item (λ x k. k) st.blocked h.blocked in
    let five = each_map (λ (m : MatchSet). st.time < m.end) P set_item (λ m k. k) st.sets h.sets in
    over_none st.time (items st) (each_append P (a ++ b ++ c ++ d) f (each_append P (a ++ b ++ c) d (each_append P (a ++ b) c (each_append P a b one two) three) four) five)

-- ---- leases of some time

some_time : (lease : ℤ) → is_none (granted lease) ≡ false → is_at_once lease ≡ false → 0 < ms_of lease
some_time lease g e = go (granted lease) g e
  where
    go : (o : Option ℕ) → is_none o ≡ false → option_map_or (λ ms. ms == 0) o false ≡ false → 0 < unwrap_or o 0
    go None k q = absurd (cc)
    go (Some n) k q = let w : n ≡ 0 → ⊥ = eqb-false n 0 q in omega (arith, w)

-- ---- waiting

waits_on : (now t n m : ℕ) → now ≡ t → now ≤ m → 0 < n → t < min (now + n) (m + 1)
waits_on now t n m e h k = omega (arith, e, h, k)

over_seek : (t : ℕ) (st : State) (s id : ℕ) (q : RowRequest) (ns : List ℕ) → st.time ≤ 2 ^ 62 → NoneOver t st → NoneOver t (give_or_block st s id q ns)
over_seek t st s id q ns m h = go (would_block st s id q) refl
  where
    b : Blocked
    b = as_blocked st s id q

    joined : State
    joined = join st (caller_of q.txn) (place_of st q.space)

    go : (d : Bool) → would_block st s id q ≡ d → NoneOver t (cond d (block (join st (caller_of q.txn) (place_of st q.space)) (as_blocked st s id q)) (give (join st (caller_of q.txn) (place_of st q.space)) (as_blocked st s id q) ns))
    go true e =
        let k : 0 < named q.timeout = ltb-true 0 (named q.timeout) (and_parts (nat_lt 0 (named q.timeout)) (must_wait st (as_blocked st s id q)) e).0 in
        over_block t (join st (caller_of q.txn) (place_of st q.space)) (as_blocked st s id q) (waits_on st.time t (named q.timeout) (2 ^ 62) h.time m k) (over_join t st (caller_of q.txn) (place_of st q.space) h)
    go false e = over_give t (join st (caller_of q.txn) (place_of st q.space)) (as_blocked st s id q) ns (over_join t st (caller_of q.txn) (place_of st q.space) h)

-- ---- renewing and cancelling

over_renew : (t : ℕ) (st : State) (lease ms : ℤ) → 0 < ms_of ms → NoneOver t st → NoneOver t (renew st lease ms)
over_renew t st lease ms l h = go (rank_of st (named lease))
  where
    at : t < st.time + ms_of ms
    at = let e : st.time ≡ t = h.time in omega (arith, e, l)

    go : (o : Option Rank) → NoneOver t (option_map_or (λ r. extend st (st.time + ms_of ms) r (named lease)) o st)
    go None = h
    go (Some r) = over_extend t st (st.time + ms_of ms) r (named lease) at h

over_cancel : (t : ℕ) (st : State) (lease : ℤ) → NoneOver t st → NoneOver t (cancel st lease)
over_cancel t st lease h = go (rank_of st (named lease))
  where
    go : (o : Option Rank) → NoneOver t (option_map_or (λ r. remove st r (named lease)) o st)
    go None = h
    go (Some r) = over_remove t st r (named lease) h

none_at_once : (ls : List (ℤ × ℤ)) → list_any (λ l. is_at_once l.1) ls ≡ false → Each (λ (l : ℤ × ℤ). is_at_once l.1 ≡ false) ls
none_at_once [] e = tt
none_at_once (l ∷ ls) e = let parts = or_parts (is_at_once l.1) (list_any (λ l. is_at_once l.1) ls) e in (parts.0, none_at_once ls parts.1)

over_renew_one : (t : ℕ) (st : State) (l : ℤ × ℤ) → is_at_once l.1 ≡ false → NoneOver t st → NoneOver t (renew_one st l)
over_renew_one t st l e h = go (first_that (renew_tests st l.0 l.1)) refl
  where
    go : (o : Option Refusal) → first_that (renew_tests st l.0 l.1) ≡ o → NoneOver t (cond (is_some o) st (renew st l.0 l.1))
    go (Some why) k = h
    go None k = over_renew t st l.0 l.1 (some_time l.1 (all_failed (renew_tests st l.0 l.1) k).1.1.0 e) h

over_cancel_one : (t : ℕ) (st : State) (l : ℤ) → NoneOver t st → NoneOver t (cancel_one st l)
over_cancel_one t st l h = choose (NoneOver t) (is_some (first_that (lease_tests st l))) st (cancel st l) h (over_cancel t st l h)

-- ---- each step

over_accepted : (t : ℕ) (st : State) (s id : ℕ) (ns : List ℕ) (a : Ask) → st.time ≤ 2 ^ 62 → Failed (tests st s id a) → ends_at_once a ≡ false → NoneOver t st → NoneOver t (accepted st s id ns a)
over_accepted t st s id ns (ask.Declare d) m f e h = record { time = h.time; rows = h.rows; registrations = h.registrations; transactions = h.transactions; blocked = h.blocked; sets = h.sets }
over_accepted t st s id ns (ask.Write w) m f e h = over_write t st (one_entry w) (some_time w.lease f.1.1.1.1.1.1.1.0 e) h
over_accepted t st s id ns (ask.Read q) m f e h = over_seek t st s id (one_row form.Read q) ns m h
over_accepted t st s id ns (ask.ReadIf q) m f e h = over_seek t st s id (one_row form.ReadIf q) ns m h
over_accepted t st s id ns (ask.Take q) m f e h = over_seek t st s id (one_row form.Take q) ns m h
over_accepted t st s id ns (ask.TakeIf q) m f e h = over_seek t st s id (one_row form.TakeIf q) ns m h
over_accepted t st s id ns (ask.Notify q) m f e h = over_register t st s q (some_time q.lease f.1.1.1.1.1.1.1.0 e) h
over_accepted t st s id ns (ask.Renew lease ms) m f e h = over_renew t st lease ms (some_time ms f.1.1.1.0 e) h
over_accepted t st s id ns (ask.Cancel lease) m f e h = over_cancel t st lease h
over_accepted t st s id ns (ask.RenewAll leases) m f e h = fold_keeps_each (λ (l : ℤ × ℤ). is_at_once l.1 ≡ false) (NoneOver t) renew_one (λ b l k g. over_renew_one t b l k g) leases (none_at_once leases e) st h
over_accepted t st s id ns (ask.CancelAll leases) m f e h = fold_keeps (NoneOver t) cancel_one (λ b l g. over_cancel_one t b l g) leases st h
over_accepted t st s id ns (ask.Txn lease) m f e h = over_begin t st lease (some_time lease f.1.0 e) h
over_accepted t st s id ns (ask.Commit x) m f e h = over_ask_commit t st s id (named x) h
over_accepted t st s id ns (ask.Abort x) m f e h = over_abort t st (named x) h
over_accepted t st s id ns (ask.State x) m f e h = h
over_accepted t st s id ns (ask.Reset space) m f e h = over_reset t st (place_of st space) h
over_accepted t st s id ns ask.Spaces m f e h = h
over_accepted t st s id ns ask.Bye m f e h = over_close t st s h
over_accepted t st s id ns (ask.Hello v) m f e h = record { time = h.time; rows = h.rows; registrations = h.registrations; transactions = h.transactions; blocked = h.blocked; sets = h.sets }
over_accepted t st s id ns (ask.WriteAll w) m f e h = over_write t st (all_entries w) (some_time w.lease f.1.1.1.1.1.1.1.0 e) h
over_accepted t st s id ns (ask.TakeMany q) m f e h = over_seek t st s id (many_rows q) ns m h
over_accepted t st s id ns (ask.Contents q) m f e h = over_open_set t st s q (some_time q.lease f.1.1.1.1.1.1.1.0 e) h
over_accepted t st s id ns (ask.Next set most) m f e h = over_turn t st (named set) most h
over_accepted t st s id ns (ask.CloseSet set) m f e h = over_remove t st rank.MatchSet (named set) h

over_asked : (t : ℕ) (st : State) (s id : ℕ) (ns : List ℕ) (a : Ask) (o : Option Refusal) → refusal st s id a ≡ o → st.time ≤ 2 ^ 62 → ends_at_once a ≡ false → NoneOver t st → NoneOver t (after_ask st s id ns a o)
unfolding refusal
over_asked t st s id ns a None k m e h = over_accepted t st s id ns a m (all_failed (tests st s id a) k) e h
over_asked t st s id ns a (Some why) k m e h = h

over_granted : (t : ℕ) (st : State) (n : ℕ) (ns : List ℕ) (o : Option Blocked) → NoneOver t st → NoneOver t (after_grant st n ns o)
over_granted t st n ns None h = h
over_granted t st n ns (Some b) h = over_unblock t (give st b ns) n (over_give t st b ns h)

over_voted : (t : ℕ) (st : State) (x : ℕ) (o : Option Joined) → NoneOver t st → NoneOver t (option_map_or (cast st x) o st)
over_voted t st x None h = h
over_voted t st x (Some j) h = over_cast t st x j h

over_tell : (t : ℕ) (st : State) (n : ℕ) → NoneOver t st → NoneOver t (change st (step.Tell n))
over_tell t st n h = record { time = h.time; rows = h.rows; registrations = each_touched (λ (r : Registration). t < r.end) (λ r. r.number == n) (λ (r : Registration). record r { owed = drop 1 r.owed; sequence = r.sequence + 1 }) (λ r k. k) st.registrations h.registrations; transactions = h.transactions; blocked = h.blocked; sets = h.sets }

over_change : (t : ℕ) (st : State) (act : Step) → st.time ≤ 2 ^ 62 → can_make_due act ≡ false → NoneOver t st → NoneOver t (change st act)
over_change t st (step.Open s) m e h = record { time = h.time; rows = h.rows; registrations = h.registrations; transactions = h.transactions; blocked = h.blocked; sets = h.sets }
over_change t st (step.Shut s) m e h = over_close t st s h
over_change t st (step.Clock c) m e h = absurd (cc)
over_change t st (step.Ask s a ns) m e h = over_asked t st s a.id ns a.ask (refusal st s a.id a.ask) refl m e h
over_change t st (step.Fault s id why) m e h = choose (NoneOver t) (is_too_long why) (close st s) st (over_close t st s h) h
over_change t st (step.Grant n ns) m e h = over_granted t st n ns (blocked_of st n) h
over_change t st (step.Empty n) m e h = over_unblock t st n h
over_change t st (step.Tell n) m e h = over_tell t st n h
over_change t st (step.Due item) m e h = over_remove t st item.rank item.number h
over_change t st (step.Vote x space) m e h = over_voted t st x (joined_at st x space) h
over_change t st (step.Decide x c) m e h = choose (NoneOver t) c (commit st x) (abort st x) (over_commit t st x h) (over_abort t st x h)
over_change t st (step.HandOut s n) m e h = h

pub nothing_becomes_due : (st : State) (act : Step) → IsSteady st → can_make_due act ≡ false → due st ≡ None → due (next st act) ≡ None
unfolding next
nothing_becomes_due st act s e d =
    let k : NoneOver st.time (change st act) = over_change st.time st act s.time e (over_from st d) in
    over_to (next st act) (subst (λ t. NoneOver t (next st act)) (sym k.time) (record { time = k.time; rows = k.rows; registrations = k.registrations; transactions = k.transactions; blocked = k.blocked; sets = k.sets }))
