-- What a step doesn't stir stays quiet.
use Rattle.std.proofs.Common.{◌≡◌, refl, sym, subst, ℕ, ℤ, ◌<◌, List, [], ◌∷◌, map, Bool, true, false, not, ◌&&◌, ◌||◌, filter, min, length, Option, Some, None, is_none, ◌==◌, nat_lt, arith, eqb-true}
use Rattle.std.specs.Prelude.{option_to_list, unwrap_or}
use Rattle.std.specs.List.{list_all}
use Rattle.std.specs.Option.{option_map_or}
use Rattle.std.proofs.lemmas.Bool.{and_parts, false_from_ne_true, ltb-true}
use Rattle.jsp_wire.specs.declared.ask.Ask.{Ask}
use Rattle.jsp_wire.specs.declared.ask.Ask.TheVariants as ask
use Rattle.jsp_reply.specs.declared.refusal.Refusal.{Refusal}
use Rattle.jsp_model.specs.declared.state.State.{State}
use Rattle.jsp_model.specs.declared.state.Blocked.{Blocked}
use Rattle.jsp_model.specs.declared.state.Joined.{Joined}
use Rattle.jsp_model.specs.declared.state.Form.TheVariants as form
use Rattle.jsp_model.specs.declared.step.Step.{Step}
use Rattle.jsp_model.specs.declared.step.Step.TheVariants as step
use Rattle.jsp_model.specs.Lookup.{contains, named, is_open, space_named, joined_at, joined_of, blocked_of}
use Rattle.jsp_model.specs.Sight.{available}
use Rattle.jsp_model.specs.Refusals.{tests, refusal}
use Rattle.jsp_model.specs.Requests.{RowRequest, one_entry, all_entries, one_row, many_rows, rows_asked, as_blocked, class_asked, place_of}
use Rattle.jsp_model.specs.Changes.{cast, commit, abort, close, give, give_or_block, accepted, ask_commit}
use Rattle.jsp_model.specs.Steps.{is_rising, is_choice, has_its_rows, is_legal, after_ask, is_too_long, after_grant, change, next}
use Rattle.jsp_model.specs.Due.{due}
use Rattle.jsp_model.specs.Quiet.{is_quiet, are_quiet}
use Rattle.jsp_model.specs.Touches.{lease_touches, item_touches, name_touches, ask_touches, touches}
use Rattle.jsp_laws.proofs.Lists.{each_weaker, each_by_all, each_found, all_kept}
use Rattle.jsp_laws.proofs.Sound.{IsSound}
use Rattle.jsp_laws.proofs.Made.{Failed, all_failed, choice_available, and_both, fourth, found_passes}
use Rattle.jsp_laws.proofs.Rising.{IsRising}
use Rattle.jsp_quiet.specs.Steady.{IsPlaced}
use Rattle.jsp_quiet.specs.Quieting.{stirs}
use Rattle.jsp_quiet.proofs.Still.{waits, Still, still_none, still_then, Quiet, quiet_parts, quiet_still}
use Rattle.jsp_quiet.proofs.Spaces.{given_there}
use Rattle.jsp_quiet.proofs.Placed.{choose}
use Rattle.jsp_quiet.proofs.Descent.{declares, quiet_declare}
use Rattle.jsp_quiet.proofs.Moves.{still_close, still_unblock, still_write, still_give, still_seek, still_register, still_open_set, still_tell, still_abort, still_commit, still_cast, still_reset}
use Rattle.jsp_quiet.proofs.Leases.{contains_neither, none_of_batch, Away, away, still_remove, still_renew, still_cancel, still_renewals, still_cancels}

-- the named space is another one
place_elsewhere : (st : State) (name : List ℕ) (p : ℕ) → is_none (space_named st name) ≡ false → contains (name_touches st name) p ≡ false → (place_of st name == p) ≡ false
place_elsewhere st name p there e = go (space_named st name) there e
  where
    go : (o : Option ℕ) → is_none o ≡ false → contains (option_to_list o) p ≡ false → (unwrap_or o 0 == p) ≡ false
    go None k q = absurd (cc)
    go (Some n) k q = first (n == p) q
      where
        first : (b : Bool) → (b || false) ≡ false → b ≡ false
        first true z = z
        first false z = refl

still_asked : (p : ℕ) (st : State) (s id : ℕ) (q : RowRequest) (ns : List ℕ) → IsRising st → is_none (space_named st q.space) ≡ false → contains (name_touches st q.space) p ≡ false
    → is_choice st (as_blocked st s id q) ns ≡ true → Still p st (give_or_block st s id q ns)
still_asked p st s id q ns r there e c =
    still_seek p st s id q ns (place_elsewhere st q.space p there e)
    (given_there st (as_blocked st s id q) ns r.rows (choice_available st (as_blocked st s id q) ns c))

quiet_accepted : (p : ℕ) (st : State) (s id : ℕ) (ns : List ℕ) (a : Ask) → IsSound st → IsRising st → IsPlaced st → Failed (tests st s id a) → has_its_rows st s id ns None (rows_asked a) ≡ true
    → contains (ask_touches st a) p ≡ false → is_quiet st p ≡ true → is_quiet (accepted st s id ns a) p ≡ true
quiet_accepted p st s id ns (ask.Declare d) k r h f c e q = quiet_declare st _ p (declares st.classes (class_asked d) f.1.1.1.0) h q
quiet_accepted p st s id ns (ask.Write w) k r h f c e q = quiet_still p st _ (still_write p st (one_entry w) (place_elsewhere st w.space p f.1.0 e)) q
quiet_accepted p st s id ns (ask.Read x) k r h f c e q = quiet_still p st _ (still_asked p st s id (one_row form.Read x) ns r f.1.0 e c) q
quiet_accepted p st s id ns (ask.ReadIf x) k r h f c e q = quiet_still p st _ (still_asked p st s id (one_row form.ReadIf x) ns r f.1.0 e c) q
quiet_accepted p st s id ns (ask.Take x) k r h f c e q = quiet_still p st _ (still_asked p st s id (one_row form.Take x) ns r f.1.0 e c) q
quiet_accepted p st s id ns (ask.TakeIf x) k r h f c e q = quiet_still p st _ (still_asked p st s id (one_row form.TakeIf x) ns r f.1.0 e c) q
quiet_accepted p st s id ns (ask.Notify x) k r h f c e q = quiet_still p st _ (still_register p st s x (place_elsewhere st x.space p f.1.0 e)) q
quiet_accepted p st s id ns (ask.Renew lease ms) k r h f c e q = quiet_still p st _ (still_renew p st lease ms (away st (named lease) p e)) q
quiet_accepted p st s id ns (ask.Cancel lease) k r h f c e q = quiet_still p st _ (still_cancel p st lease (away st (named lease) p e) h) q
quiet_accepted p st s id ns (ask.RenewAll leases) k r h f c e q =
    quiet_still p st _ (still_renewals p st leases st (still_none p st)
    (each_weaker (λ (l : ℤ × ℤ). contains (lease_touches st (named l.0)) p ≡ false) (λ (l : ℤ × ℤ). Away (named l.0) p st) (λ l z. away st (named l.0) p z) leases
    (none_of_batch (λ l. lease_touches st (named l.0)) leases p e))) q
quiet_accepted p st s id ns (ask.CancelAll leases) k r h f c e q =
    quiet_still p st _ (still_cancels p st leases st k h (still_none p st)
    (each_weaker (λ (l : ℤ). contains (lease_touches st (named l)) p ≡ false) (λ (l : ℤ). Away (named l) p st) (λ l z. away st (named l) p z) leases
    (none_of_batch (λ l. lease_touches st (named l)) leases p e))) q
quiet_accepted p st s id ns (ask.Txn lease) k r h f c e q = quiet_still p st _ (record { classes = refl; rows = refl; blocked = λ t z. z; registrations = λ z. z }) q
quiet_accepted p st s id ns (ask.Commit x) k r h f c e q = quiet_still p st (ask_commit st s id (named x)) (record { classes = refl; rows = refl; blocked = λ t z. all_kept (λ b. not (b.space == p) || t b) _ st.blocked z; registrations = λ z. z }) q
quiet_accepted p st s id ns (ask.Abort x) k r h f c e q = quiet_still p st _ (still_abort p st (named x) h e) q
quiet_accepted p st s id ns (ask.State x) k r h f c e q = q
quiet_accepted p st s id ns (ask.Reset space) k r h f c e q = quiet_still p st _ (still_reset p st (place_of st space) (place_elsewhere st space p f.1.0 e)) q
quiet_accepted p st s id ns ask.Spaces k r h f c e q = q
quiet_accepted p st s id ns ask.Bye k r h f c e q = quiet_still p st _ (still_close p st s) q
quiet_accepted p st s id ns (ask.Hello v) k r h f c e q = quiet_still p st _ (record { classes = refl; rows = refl; blocked = λ t z. z; registrations = λ z. z }) q
quiet_accepted p st s id ns (ask.WriteAll w) k r h f c e q = quiet_still p st _ (still_write p st (all_entries w) (place_elsewhere st w.space p f.1.0 e)) q
quiet_accepted p st s id ns (ask.TakeMany x) k r h f c e q = quiet_still p st _ (still_asked p st s id (many_rows x) ns r f.1.0 e c) q
quiet_accepted p st s id ns (ask.Contents x) k r h f c e q = quiet_still p st _ (still_open_set p st s x) q
quiet_accepted p st s id ns (ask.Next set most) k r h f c e q = quiet_still p st _ (record { classes = refl; rows = refl; blocked = λ t z. z; registrations = λ z. z }) q
quiet_accepted p st s id ns (ask.CloseSet set) k r h f c e q = quiet_still p st _ (record { classes = refl; rows = refl; blocked = λ t z. z; registrations = λ z. z }) q

-- a refused request changes nothing
quiet_asked : (p : ℕ) (st : State) (s id : ℕ) (ns : List ℕ) (a : Ask) (o : Option Refusal) → refusal st s id a ≡ o → has_its_rows st s id ns o (rows_asked a) ≡ true → IsSound st → IsRising st → IsPlaced st
    → contains (ask_touches st a) p ≡ false → is_quiet st p ≡ true → is_quiet (after_ask st s id ns a o) p ≡ true
unfolding refusal
quiet_asked p st s id ns a None z c k r h e q = quiet_accepted p st s id ns a k r h (all_failed (tests st s id a) z) c e q
quiet_asked p st s id ns a (Some why) z c k r h e q = q

-- ---- granting

-- a request that must wait gets no rows
none_given : (st : State) (b : Blocked) (ns : List ℕ) → waits st.classes st.rows b ≡ true → nat_lt 0 (length ns) ≡ true → is_choice st b ns ≡ true → ⊥
none_given st b ns w l c =
    let none : length (available st b) ≡ 0 = eqb-true (length (available st b)) 0 (and_parts (length (available st b) == 0) _ w).0 in
    let some : 0 < length ns = ltb-true 0 (length ns) l in
    let all : length ns ≡ min b.most (length (available st b)) = eqb-true (length ns) (min b.most (length (available st b))) (and_parts (is_rising ns && list_all (contains (available st b)) ns) _ c).1 in
    omega (arith, none, some, all)

still_granted : (p : ℕ) (st : State) (n : ℕ) (ns : List ℕ) (o : Option Blocked) → IsRising st → blocked_of st n ≡ o → option_map_or (λ b. nat_lt 0 (length ns) && is_choice st b ns) o false ≡ true
    → is_quiet st p ≡ true → Still p st (after_grant st n ns o)
still_granted p st n ns None r k e q = still_none p st
still_granted p st n ns (Some b) r k e q =
    let parts : (nat_lt 0 (length ns) ≡ true) × (is_choice st b ns ≡ true) = and_both (nat_lt 0 (length ns)) (is_choice st b ns) e in
    let quiet : Quiet st p = quiet_parts st p q in
    let there : (not (b.space == p) || waits st.classes st.rows b) ≡ true = (each_found (λ (x : Blocked). (not (x.space == p) || waits st.classes st.rows x) ≡ true) (λ b. b.number == n) st.blocked b (each_by_all _ st.blocked quiet.blocked) k).0 in
    let away : (b.space == p) ≡ false = false_from_ne_true (b.space == p) (λ z. none_given st b ns (rw z at there) parts.0 parts.1) in
    still_then (still_give p st b ns away (given_there st b ns r.rows (choice_available st b ns parts.1))) (still_unblock p (give st b ns) n)

-- ---- votes

still_voted : (p : ℕ) (st : State) (x space : ℕ) (o : Option Joined) → joined_at st x space ≡ o → contains (space ∷ []) p ≡ false → Still p st (option_map_or (cast st x) o st)
still_voted p st x space None k e = still_none p st
still_voted p st x space (Some j) k e =
    let here : j.space ≡ space = eqb-true j.space space (found_passes (λ i. i.space == space) (joined_of st x) j k) in
    still_cast p st x j (subst (λ z. (z == p) ≡ false) (sym here) (first (space == p) e))
  where
    first : (b : Bool) → (b || false) ≡ false → b ≡ false
    first true z = z
    first false z = refl

-- ---- each step

item_away : (st : State) (n p : ℕ) → contains (item_touches st n) p ≡ false → Away n p st
item_away st n p e = away st n p (contains_neither (lease_touches st n) (map (λ b. b.space) (filter (λ b. b.number == n) st.blocked)) p e).0

quiet_change : (p : ℕ) (st : State) (act : Step) → is_legal st act ≡ true → IsSound st → IsRising st → IsPlaced st → contains (stirs st act) p ≡ false → is_quiet st p ≡ true → is_quiet (change st act) p ≡ true
unfolding is_legal touches
quiet_change p st (step.Open s) l k r h e q = quiet_still p st _ (record { classes = refl; rows = refl; blocked = λ t z. z; registrations = λ z. z }) q
quiet_change p st (step.Shut s) l k r h e q = quiet_still p st _ (still_close p st s) q
quiet_change p st (step.Clock t) l k r h e q = quiet_still p st _ (record { classes = refl; rows = refl; blocked = λ t z. z; registrations = λ z. z }) q
quiet_change p st (step.Ask s a ns) l k r h e q = quiet_asked p st s a.id ns a.ask (refusal st s a.id a.ask) refl (fourth (is_open st s) (is_none (due st)) (are_quiet st (touches st (step.Ask s a ns))) (has_its_rows st s a.id ns (refusal st s a.id a.ask) (rows_asked a.ask)) l) k r h e q
quiet_change p st (step.Fault s id why) l k r h e q = choose (λ b. is_quiet b p ≡ true) (is_too_long why) (close st s) st (quiet_still p st _ (still_close p st s) q) q
quiet_change p st (step.Grant n ns) l k r h e q = quiet_still p st _ (still_granted p st n ns (blocked_of st n) r refl l q) q
quiet_change p st (step.Empty n) l k r h e q = quiet_still p st _ (still_unblock p st n) q
quiet_change p st (step.Tell n) l k r h e q = quiet_still p st _ (still_tell p st n) q
quiet_change p st (step.Due item) l k r h e q = quiet_still p st _ (still_remove p st item.rank item.number (item_away st item.number p e) h) q
quiet_change p st (step.Vote x space) l k r h e q = quiet_still p st _ (still_voted p st x space (joined_at st x space) refl e) q
quiet_change p st (step.Decide x c) l k r h e q = quiet_still p st _ (choose (Still p st) c (commit st x) (abort st x) (still_commit p st x h e) (still_abort p st x h e)) q
quiet_change p st (step.HandOut s n) l k r h e q = q

pub quiet_step : (p : ℕ) (st : State) (act : Step) → is_legal st act ≡ true → IsSound st → IsRising st → IsPlaced st → contains (stirs st act) p ≡ false → is_quiet st p ≡ true → is_quiet (next st act) p ≡ true
unfolding next
quiet_step p st act l k r h e q = quiet_still p (change st act) (next st act) (record { classes = refl; rows = refl; blocked = λ t z. z; registrations = λ z. z }) (quiet_change p st act l k r h e q)
