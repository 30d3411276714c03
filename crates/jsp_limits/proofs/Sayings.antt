-- What is said in a legal step keeps the limits of answers.
use Rattle.std.proofs.Common.{◌≡◌, ℕ, ◌+◌, ◌≤◌, ◌^◌, Bool, true, false, cond, nat_lt, nat_le, min, List, [], ◌∷◌, map, take, length, Option, Some, None, is_none, is_some, refl, sym, ◌∙◌, arith, eqb-true, eq-eqb}
use Rattle.std.specs.Prelude.{filter, ◌&&◌, ◌||◌, ◌==◌, IsTrue, if◌then◌else◌}
use Rattle.std.specs.List.{list_all, list_any, scan, range_with_len}
use Rattle.std.specs.Option.{option_map_or}
use Rattle.std.proofs.lemmas.Bool.{and_parts, and_from, le-leb, leb-true}
use Rattle.std.proofs.lemmas.List.{length-map, length-take}
use Rattle.std.proofs.lemmas.List.FromFn.{length-range_with_len}
use Rattle.std.proofs.lemmas.List.Folds.{list_all-append, list_all-map}
use Rattle.jsp_types.specs.declared.entry.Entry.{Entry}
use Rattle.jsp_types.specs.Classes.{is_name}
use Rattle.jsp_types.specs.Matching.{is_small, is_small_template}
use Rattle.jsp_wire.specs.declared.ask.Ask.{Ask}
use Rattle.jsp_wire.specs.declared.ask.Ask.TheVariants as ask
use Rattle.jsp_wire.specs.Limits.{has_fitting_parts, is_between}
use Rattle.jsp_reply.specs.declared.refusal.Refusal.{Refusal}
use Rattle.jsp_reply.specs.declared.refusal.Refusal.TheVariants.{LeftActive, CrashCount}
use Rattle.jsp_reply.specs.declared.reply.Reply.{Reply}
use Rattle.jsp_reply.specs.declared.reply.Reply.TheVariants as says
use Rattle.jsp_reply.specs.Limits.{is_within_limits}
use Rattle.jsp_model.specs.declared.state.State.{State}
use Rattle.jsp_model.specs.declared.state.Row.{Row}
use Rattle.jsp_model.specs.declared.state.Space.{Space}
use Rattle.jsp_model.specs.declared.state.Registration.{Registration}
use Rattle.jsp_model.specs.declared.state.Blocked.{Blocked}
use Rattle.jsp_model.specs.declared.state.Commit.{Commit}
use Rattle.jsp_model.specs.declared.state.MatchSet.{MatchSet}
use Rattle.jsp_model.specs.declared.state.Form.TheVariants as form
use Rattle.jsp_lease.specs.declared.item.Rank.{Rank}
use Rattle.jsp_lease.specs.declared.item.Rank.TheVariants as rank
use Rattle.jsp_lease.specs.Granted.{ms_of}
use Rattle.jsp_model.specs.declared.step.Step.{Step}
use Rattle.jsp_model.specs.declared.step.Step.TheVariants as step
use Rattle.jsp_model.specs.Config.{are_space_names, are_different}
use Rattle.jsp_model.specs.Lookup.{named, contains, is_caller, is_open, blocked_of, registration_of, set_of, rows_of}
use Rattle.jsp_model.specs.Sight.{available}
use Rattle.jsp_model.specs.Due.{due}
use Rattle.jsp_model.specs.Quiet.{are_quiet}
use Rattle.jsp_model.specs.Touches.{touches}
use Rattle.jsp_model.specs.Refusals.{refusal}
use Rattle.jsp_model.specs.Requests.{RowRequest, one_row, many_rows, rows_asked, place_of, as_blocked, would_block}
use Rattle.jsp_model.specs.Changes.{renew_one, cancel_one, rest_of_set, page_of, is_last_page}
use Rattle.jsp_model.specs.Answers.{Saying, is_many, answer_with, entries_of, rows_answer, renew_answer, cancel_answer, answer, refuse, refuse_under, answer_commit, aborted_reply, told_others, said_to_ask, said_to_blocked, said_when_due, event_of, all_said, said}
use Rattle.jsp_model.specs.Steps.{is_rising, is_choice, has_its_rows, is_legal}
use Rattle.jsp_model.specs.Limits.{is_row, is_registration, is_blocked, is_end, has_fitting_request, IsWithinLimits}
use Rattle.jsp_limits.proofs.Lists.{all_weaker, found_all}
use Rattle.jsp_types.proofs.Joining.{name_is_short}
use Rattle.jsp_laws.proofs.Lists.{all_kept, all_taken}

-- ---- lists

count_weaker : {A : Type 0} (p q : A → Bool) → ((x : A) → p x ≡ true → q x ≡ true) → (xs : List A) → length (filter p xs) ≤ length (filter q xs)
count_weaker p q f [] = omega arith
count_weaker p q f (x ∷ xs) = go (p x) refl (q x) refl (count_weaker p q f xs)
  where
    go : (a : Bool) → p x ≡ a → (b : Bool) → q x ≡ b → length (filter p xs) ≤ length (filter q xs) → length (cond a (x ∷ filter p xs) (filter p xs)) ≤ length (cond b (x ∷ filter q xs) (filter q xs))
    go true d true e l = omega (arith, l)
    go true d false e l = absurd (cc (f x d))
    go false d true e l = omega (arith, l)
    go false d false e l = l

count_or : {A : Type 0} (p q : A → Bool) (xs : List A) → length (filter (λ x. p x || q x) xs) ≤ length (filter p xs) + length (filter q xs)
count_or p q [] = omega arith
count_or p q (x ∷ xs) = go (p x) (q x) (count_or p q xs)
  where
    go : (a b : Bool) → length (filter (λ x. p x || q x) xs) ≤ length (filter p xs) + length (filter q xs)
        → length (cond (a || b) (x ∷ filter (λ x. p x || q x) xs) (filter (λ x. p x || q x) xs)) ≤ length (cond a (x ∷ filter p xs) (filter p xs)) + length (cond b (x ∷ filter q xs) (filter q xs))
    go true true l = omega (arith, l)
    go true false l = omega (arith, l)
    go false true l = omega (arith, l)
    go false false l = l

none_of_none : (rows : List Row) → length (filter (λ (r : Row). contains [] r.number) rows) ≡ 0
none_of_none [] = refl
none_of_none (r ∷ rows) = none_of_none rows

-- ---- entries

-- no more rows have these numbers than there are numbers
pub rows_few : (st : State) (ns : List ℕ) → IsWithinLimits st → length (rows_of st ns) ≤ length ns
rows_few st [] h = omega (arith, none_of_none st.rows)
rows_few st (n ∷ ns) h =
    let rest = rows_few st ns h in
    let split = count_or (λ (r : Row). n == r.number) (λ (r : Row). contains ns r.number) st.rows in
    let turned = count_weaker (λ (r : Row). n == r.number) (λ (r : Row). r.number == n) (λ r e. eq-eqb r.number n (sym (eqb-true n r.number e))) st.rows in
    let once = h.numbers n in
    omega (arith, rest, split, turned, once)

entry_fits : (spaces : ℕ) (r : Row) → is_row spaces r ≡ true → is_small r.entry ≡ true
entry_fits spaces r e = (and_parts (nat_lt r.space spaces && is_end r.end) (is_small r.entry) e).1

entries_small : (rows : List Row) (spaces : ℕ) → list_all (is_row spaces) rows ≡ true → list_all is_small (map (λ (r : Row). r.entry) rows) ≡ true
entries_small rows spaces h = list_all-map is_small (λ (r : Row). r.entry) rows ∙ all_weaker (is_row spaces) (λ (r : Row). is_small r.entry) (entry_fits spaces) rows h

-- the entries of a choice are small, and at most as many as were asked for
pub record FewEntries (es : List Entry) : Type 0 where
  pub small : list_all is_small es ≡ true
  pub few : length es ≤ 16

pub chosen_few : (st : State) (b : Blocked) (ns : List ℕ) → IsWithinLimits st → nat_le b.most 16 ≡ true → is_choice st b ns ≡ true → FewEntries (entries_of st ns)
chosen_few st b ns h most e =
    let count = eqb-true (length ns) (min b.most (length (available st b))) (and_parts (is_rising ns && list_all (contains (available st b)) ns) (length ns == min b.most (length (available st b))) e).1 in
    let least = leb-true b.most 16 most in
    let rows = rows_few st ns h in
    let as_many = length-map (rows_of st ns) (λ (r : Row). r.entry) in
    record {
      small = entries_small (rows_of st ns) (length st.spaces) (all_kept (is_row (length st.spaces)) (λ (r : Row). contains ns r.number) st.rows h.rows.each);
      few = omega (arith, count, least, rows, as_many);
    }

pub answer_fits : (b : Blocked) (es : List Entry) → FewEntries es → is_within_limits (answer_with b es) ≡ true
answer_fits b [] f = refl
answer_fits b (e ∷ es) f = go (is_many b.form)
  where
    go : (many : Bool) → is_within_limits (cond many (says.Many b.id (e ∷ es)) (says.Shown b.id e)) ≡ true
    go true = and_from (nat_le (length (e ∷ es)) 16) (list_all is_small (e ∷ es)) (le-leb (length (e ∷ es)) 16 f.few) f.small
    go false = (and_parts (is_small e) (list_all is_small es) f.small).0

pub page_fits : (st : State) (n most : ℕ) → IsWithinLimits st → nat_le most 16 ≡ true → FewEntries (map (λ (r : Row). r.entry) (page_of st n most))
page_fits st n most h le = go (set_of st n)
  where
    go : (o : Option MatchSet) → FewEntries (map (λ (r : Row). r.entry) (option_map_or (λ m. take most (rest_of_set st m)) o []))
    go None = record { small = refl; few = omega arith }
    go (Some m) =
        let rows : List Row = take most (rest_of_set st m) in
        let least = leb-true most 16 le in
        let count = length-take most (rest_of_set st m) in
        let as_many = length-map rows (λ (r : Row). r.entry) in
        record {
          small = entries_small rows (length st.spaces) (all_taken (is_row (length st.spaces)) most (rest_of_set st m) (all_kept (is_row (length st.spaces)) _ st.rows h.rows.each));
          few = omega (arith, least, count, as_many);
        }

-- ---- names, batches

pub names_fit : (names : List (List ℕ)) → are_space_names names ≡ true → (nat_le (length names) 64 && list_all (λ n. nat_le (length n) 64) names) ≡ true
names_fit names h =
    let a = and_parts (nat_le 1 (length names) && nat_le (length names) 64 && list_all is_name names) (are_different names) h in
    let b = and_parts (nat_le 1 (length names) && nat_le (length names) 64) (list_all is_name names) a.0 in
    let c = and_parts (nat_le 1 (length names)) (nat_le (length names) 64) b.0 in
    and_from (nat_le (length names) 64) (list_all (λ n. nat_le (length n) 64) names) c.1 (all_weaker is_name (λ n. nat_le (length n) 64) name_is_short names b.1)

length_scan : {S X Y : Type 0} (f : S → X → S) (g : S → X → Y) (s : S) (xs : List X) → length (scan f g s xs) ≡ length xs
length_scan f g s [] = refl
length_scan f g s (x ∷ xs) = let rest = length_scan f g (f s x) xs in omega (arith, rest)

-- ---- sayings

abbrev fits : Saying → Bool
fits a = is_within_limits a.1

refusals_fit : {A : Type 0} (f : A → ℕ) (g : A → Option ℕ) (r : Refusal) (xs : List A) → list_all fits (map (λ x. (f x, says.Refused (g x) r)) xs) ≡ true
refusals_fit f g r [] = refl
refusals_fit f g r (x ∷ xs) = refusals_fit f g r xs

refuse_fits : (r : Refusal) (t : Blocked → Bool) (st : State) → list_all fits (refuse r t st) ≡ true
refuse_fits r t st = refusals_fit (λ (b : Blocked). b.session) (λ (b : Blocked). Some b.id) r (filter t st.blocked)

commit_fits : (st : State) (x : ℕ) (f : ℕ → Reply) → ((id : ℕ) → is_within_limits (f id) ≡ true) → list_all fits (answer_commit st x f) ≡ true
commit_fits st x f e = go (filter (λ (c : Commit). c.transaction == x) st.commits)
  where
    go : (cs : List Commit) → list_all fits (map (λ (c : Commit). (c.session, f c.id)) cs) ≡ true
    go [] = refl
    go (c ∷ cs) = and_from (is_within_limits (f c.id)) (list_all fits (map (λ (c : Commit). (c.session, f c.id)) cs)) (e c.id) (go cs)

others_fit : (st : State) (a : Ask) → list_all fits (told_others st a) ≡ true
others_fit st (ask.Commit x) = refuse_fits LeftActive (λ b. list_any (is_caller b.transaction) (named x ∷ [])) st
others_fit st (ask.Abort x) =
    list_all-append fits (answer_commit st (named x) aborted_reply) (refuse_under st (named x ∷ []))
    ∙ and_from (list_all fits (answer_commit st (named x) aborted_reply)) (list_all fits (refuse_under st (named x ∷ []))) (commit_fits st (named x) aborted_reply (λ id. refl)) (refuse_fits LeftActive (λ b. list_any (is_caller b.transaction) (named x ∷ [])) st)
others_fit st (ask.Cancel lease) = refuse_fits LeftActive (λ b. list_any (is_caller b.transaction) (named lease ∷ [])) st
others_fit st (ask.CancelAll leases) = refuse_fits LeftActive (λ b. list_any (is_caller b.transaction) (map named leases)) st
others_fit st (ask.Reset space) = refuse_fits CrashCount (λ b. b.space == place_of st space && is_some b.transaction) st
others_fit st _ = refl

-- ---- answers

one_fits : (r : Reply) → is_within_limits r ≡ true → list_all is_within_limits (r ∷ []) ≡ true
one_fits r e = and_from (is_within_limits r) true e refl

rows_fit : (st : State) (s id : ℕ) (ns : List ℕ) (q : RowRequest) → IsWithinLimits st → nat_le q.most 16 ≡ true → is_choice st (as_blocked st s id q) ns ≡ true → list_all is_within_limits (rows_answer st s id ns q) ≡ true
rows_fit st s id ns q h most e = go (would_block st s id q)
  where
    go : (b : Bool) → list_all is_within_limits (cond b [] (answer_with (as_blocked st s id q) (entries_of st ns) ∷ [])) ≡ true
    go true = refl
    go false = one_fits (answer_with (as_blocked st s id q) (entries_of st ns)) (answer_fits (as_blocked st s id q) (entries_of st ns) (chosen_few st (as_blocked st s id q) ns h most e))

at_most : (low high n : ℕ) → is_between low high n ≡ true → n ≤ high
at_most low high n e = leb-true n high (and_parts (nat_le low n) (nat_le n high) e).1

answers_fit : (st : State) (s id : ℕ) (ns : List ℕ) (a : Ask) → IsWithinLimits st → has_fitting_parts a ≡ true → has_its_rows st s id ns None (rows_asked a) ≡ true → list_all is_within_limits (answer st s id ns a) ≡ true
answers_fit st s id ns (ask.Read q) h f e = rows_fit st s id ns (one_row form.Read q) h refl e
answers_fit st s id ns (ask.ReadIf q) h f e = rows_fit st s id ns (one_row form.ReadIf q) h refl e
answers_fit st s id ns (ask.Take q) h f e = rows_fit st s id ns (one_row form.Take q) h refl e
answers_fit st s id ns (ask.TakeIf q) h f e = rows_fit st s id ns (one_row form.TakeIf q) h refl e
answers_fit st s id ns (ask.TakeMany q) h f e =
    rows_fit st s id ns (many_rows q) h (and_parts (nat_le 1 q.most) (nat_le q.most 16) (and_parts (is_between 1 8 (length q.templates)) (is_between 1 16 q.most) f).1).1 e
answers_fit st s id ns (ask.RenewAll leases) h f e =
    one_fits (says.Leases id (scan renew_one renew_answer st leases)) (le-leb (length (scan renew_one renew_answer st leases)) 64 (omega (arith, at_most 1 64 (length leases) f, length_scan renew_one renew_answer st leases)))
answers_fit st s id ns (ask.CancelAll leases) h f e =
    one_fits (says.Leases id (scan cancel_one cancel_answer st leases)) (le-leb (length (scan cancel_one cancel_answer st leases)) 64 (omega (arith, at_most 1 64 (length leases) f, length_scan cancel_one cancel_answer st leases)))
answers_fit st s id ns (ask.WriteAll w) h f e =
    one_fits (says.Batch id (range_with_len st.next_number (length w.entries)) (ms_of w.lease)) (le-leb (length (range_with_len st.next_number (length w.entries))) 64 (omega (arith, at_most 1 64 (length w.entries) f, length-range_with_len st.next_number (length w.entries))))
answers_fit st s id ns ask.Spaces h f e = one_fits (says.Names id (map (λ (p : Space). p.name) st.spaces)) (names_fit (map (λ (p : Space). p.name) st.spaces) h.spaces.names)
answers_fit st s id ns (ask.Next set most) h f e =
    let page = page_fits st (named set) most h (and_parts (nat_le 1 most) (nat_le most 16) f).1 in
    let es : List Entry = map (λ (r : Row). r.entry) (page_of st (named set) most) in
    one_fits (says.Page id (is_last_page st (named set) most) es) (and_from (nat_le (length es) 16) (list_all is_small es) (le-leb (length es) 16 page.few) page.small)
answers_fit st s id ns _ h f e = refl

-- ---- steps

to_session_fits : (s : ℕ) (rs : List Reply) → list_all is_within_limits rs ≡ true → list_all fits (map (λ x. (s, x)) rs) ≡ true
to_session_fits s rs h = list_all-map fits (λ x. (s, x)) rs ∙ h

ask_fits : (st : State) (s id : ℕ) (ns : List ℕ) (a : Ask) (o : Option Refusal) → IsWithinLimits st → has_fitting_parts a ≡ true → has_its_rows st s id ns o (rows_asked a) ≡ true → list_all fits (said_to_ask st s id ns a o) ≡ true
ask_fits st s id ns a (Some r) h f e = refl
ask_fits st s id ns a None h f e =
    let own : List Saying = map (λ x. (s, x)) (answer st s id ns a) in
    list_all-append fits own (told_others st a)
    ∙ and_from (list_all fits own) (list_all fits (told_others st a)) (to_session_fits s (answer st s id ns a) (answers_fit st s id ns a h f e)) (others_fit st a)

most_of : (spaces : ℕ) (b : Blocked) → is_blocked spaces b ≡ true → nat_le b.most 16 ≡ true
most_of spaces b e =
    let all = and_parts (nat_lt b.space spaces && nat_le b.end (2 ^ 62 + 1) && list_all is_small_template b.templates && nat_le 1 (length b.templates) && nat_le (length b.templates) 8 && nat_le 1 b.most && nat_le b.most 16) (is_many b.form || b.most == 1) e in
    (and_parts (nat_lt b.space spaces && nat_le b.end (2 ^ 62 + 1) && list_all is_small_template b.templates && nat_le 1 (length b.templates) && nat_le (length b.templates) 8 && nat_le 1 b.most) (nat_le b.most 16) all.0).1

grant_fits : (st : State) (n : ℕ) (ns : List ℕ) (o : Option Blocked) → blocked_of st n ≡ o → IsWithinLimits st → option_map_or (λ b. nat_lt 0 (length ns) && is_choice st b ns) o false ≡ true → list_all fits (said_to_blocked o (entries_of st ns)) ≡ true
grant_fits st n ns None k h e = refl
grant_fits st n ns (Some b) k h e =
    let found = found_all (is_blocked (length st.spaces)) (λ b. b.number == n) st.blocked b h.blocked.each k in
    and_from (is_within_limits (answer_with b (entries_of st ns))) true
    (answer_fits b (entries_of st ns) (chosen_few st b ns h (most_of (length st.spaces) b found.0) (and_parts (nat_lt 0 (length ns)) (is_choice st b ns) e).1)) refl

nothing_fits : (o : Option Blocked) → list_all fits (said_to_blocked o []) ≡ true
nothing_fits None = refl
nothing_fits (Some b) = refl

event_fits : (st : State) (n : ℕ) (o : Option Registration) → registration_of st n ≡ o → IsWithinLimits st → list_all fits (event_of o) ≡ true
event_fits st n None k h = refl
event_fits st n (Some r) k h =
    let found = found_all (is_registration (length st.spaces)) (λ r. r.number == n) st.registrations r h.registrations.each k in
    and_from (nat_le (length r.handback) 256) true (and_parts (nat_lt r.space (length st.spaces) && is_end r.end && is_small_template r.template) (nat_le (length r.handback) 256) found.0).1 refl

due_fits : (st : State) (r : Rank) (n : ℕ) → list_all fits (said_when_due st r n) ≡ true
due_fits st rank.Blocked n = nothing_fits (blocked_of st n)
due_fits st rank.Transaction n = refuse_fits LeftActive (λ b. list_any (is_caller b.transaction) (n ∷ [])) st
due_fits st rank.Entry n = refl
due_fits st rank.Registration n = refl
due_fits st rank.MatchSet n = refl

decision_fits : (commits : Bool) (id : ℕ) → is_within_limits (if commits then says.Done id else aborted_reply id) ≡ true
decision_fits true id = refl
decision_fits false id = refl

all_fit : (st : State) (act : Step) → IsWithinLimits st → is_legal st act ≡ true → has_fitting_request act ≡ true → list_all fits (all_said st act) ≡ true
unfolding is_legal
all_fit st (step.Ask s a ns) h e f =
    ask_fits st s a.id ns a.ask (refusal st s a.id a.ask) h f
    (and_parts (is_open st s && is_none (due st) && are_quiet st (touches st (step.Ask s a ns))) (has_its_rows st s a.id ns (refusal st s a.id a.ask) (rows_asked a.ask)) e).1
all_fit st (step.Fault s id r) h e f = refl
all_fit st (step.Grant n ns) h e f = grant_fits st n ns (blocked_of st n) refl h e
all_fit st (step.Empty n) h e f = nothing_fits (blocked_of st n)
all_fit st (step.Tell n) h e f = event_fits st n (registration_of st n) refl h
all_fit st (step.Due item) h e f = due_fits st item.rank item.number
all_fit st (step.Decide x commits) h e f = commit_fits st x (λ id. if commits then says.Done id else aborted_reply id) (decision_fits commits)
all_fit st (step.Open s) h e f = refl
all_fit st (step.Shut s) h e f = refl
all_fit st (step.Clock t) h e f = refl
all_fit st (step.Vote x space) h e f = refl
all_fit st (step.HandOut s n) h e f = refl

-- All that is said in a legal step of a state within its limits keeps the limits of answers.
pub said_fits : (st : State) (act : Step) → IsWithinLimits st → IsTrue (is_legal st act) → IsTrue (has_fitting_request act) → IsTrue (list_all (λ (a : Saying). is_within_limits a.1) (said st act))
unfolding said
said_fits st act h e f = all_kept fits (λ (a : Saying). is_open st a.0) (all_said st act) (all_fit st act h e f)
