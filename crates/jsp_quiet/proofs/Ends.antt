-- No end has come: what changes leave of it.
use Rattle.std.proofs.Common.{◌≡◌, refl, sym, ◌∙◌, subst, ℕ, ℤ, ◌+◌, ◌<◌, List, [], ◌∷◌, ◌++◌, map, Bool, true, false, not, cond, filter, find, Option, Some, None, is_some, ◌==◌, arith, eqb-true, eq-eqb, true≢false}
use Rattle.std.specs.List.{last_or}
use Rattle.std.proofs.lemmas.Bool.{not-true}
use Rattle.jsp_wire.specs.declared.ask.Notify.{Notify}
use Rattle.jsp_wire.specs.declared.ask.Contents.{Contents}
use Rattle.jsp_model.specs.declared.state.State.{State}
use Rattle.jsp_model.specs.declared.state.Row.{Row}
use Rattle.jsp_model.specs.declared.state.Registration.{Registration}
use Rattle.jsp_model.specs.declared.state.Blocked.{Blocked}
use Rattle.jsp_model.specs.declared.state.Transaction.{Transaction}
use Rattle.jsp_model.specs.declared.state.Commit.{Commit}
use Rattle.jsp_model.specs.declared.state.Joined.{Joined}
use Rattle.jsp_model.specs.declared.state.MatchSet.{MatchSet}
use Rattle.jsp_lease.specs.declared.item.Rank.{Rank}
use Rattle.jsp_lease.specs.declared.item.Rank.TheVariants as rank
use Rattle.jsp_lease.specs.Granted.{ms_of}
use Rattle.jsp_model.specs.Lookup.{update, contains, is_caller, joined_at}
use Rattle.jsp_model.specs.Sight.{is_take}
use Rattle.jsp_model.specs.Requests.{WriteRequest, caller_of, place_of}
use Rattle.jsp_model.specs.Changes.{newly_joined, join, owe, add_row, new_row, write, give, block, unblock, register, begin, open_set, page_of, turn_page, close, unread, forget, abort, committed, published, commit, ask_commit, cast, remove, extend, reset}
use Rattle.jsp_laws.proofs.Lists.{Each, each_weaker, each_kept, each_filter, each_map, each_touched, each_append, each_flat, fold_keeps}
use Rattle.jsp_laws.proofs.Sound.{after_giving, to_cursor}

abbrev pub Ahead : {A : Type 0} → (A → ℕ) → ℕ → List A → Type 0
Ahead end t xs = Each (λ x. t < end x) xs

abbrev pub row_end : Row → ℕ
row_end r = r.end

abbrev pub registration_end : Registration → ℕ
registration_end r = r.end

abbrev pub blocked_end : Blocked → ℕ
blocked_end b = b.end

abbrev pub set_end : MatchSet → ℕ
set_end m = m.end

-- its commit is among these
abbrev pub votes_in : List Commit → ℕ → Bool
votes_in cs x = is_some (find (λ c. c.transaction == x) cs)

abbrev pub Standing : ℕ → List Commit → Transaction → Type 0
Standing t cs x = votes_in cs x.number ≡ false → t < x.end

-- it is that time, and nothing's end has come
pub record NoneOver (t : ℕ) (st : State) : Type 0 where
  pub time : st.time ≡ t
  pub rows : Ahead row_end t st.rows
  pub registrations : Ahead registration_end t st.registrations
  pub transactions : Each (Standing t st.commits) st.transactions
  pub blocked : Ahead blocked_end t st.blocked
  pub sets : Ahead set_end t st.sets

-- ---- lists

ahead_kept : {A : Type 0} (end : A → ℕ) (t : ℕ) (keep : A → Bool) (xs : List A) → Ahead end t xs → Ahead end t (filter keep xs)
ahead_kept end t keep xs h = each_filter (λ x. t < end x) keep xs h

ahead_touched : {A : Type 0} (end : A → ℕ) (t : ℕ) (test : A → Bool) (f : A → A) → ((x : A) → end (f x) ≡ end x) → (xs : List A) → Ahead end t xs → Ahead end t (update test f xs)
ahead_touched end t test f e xs h = each_touched (λ x. t < end x) test f (λ x k. subst (λ n. t < n) (sym (e x)) k) xs h

ahead_moved : {A : Type 0} (end : A → ℕ) (t : ℕ) (test : A → Bool) (f : A → A) → ((x : A) → t < end (f x)) → (xs : List A) → Ahead end t xs → Ahead end t (update test f xs)
ahead_moved end t test f e xs h = each_touched (λ x. t < end x) test f (λ x k. e x) xs h

ahead_pushed : {A : Type 0} (end : A → ℕ) (t : ℕ) (xs : List A) (x : A) → t < end x → Ahead end t xs → Ahead end t (xs ++ x ∷ [])
ahead_pushed end t xs x e h = each_append (λ x. t < end x) xs (x ∷ []) h (e, tt)

-- ---- commits

votes_more : (cs : List Commit) (c : Commit) (x : ℕ) → votes_in (cs ++ c ∷ []) x ≡ false → votes_in cs x ≡ false
votes_more [] c x e = refl
votes_more (d ∷ cs) c x e = go (d.transaction == x) e (votes_more cs c x)
  where
    go : (b : Bool) → is_some (cond b (Some d) (find (λ c. c.transaction == x) (cs ++ c ∷ []))) ≡ false → (votes_in (cs ++ c ∷ []) x ≡ false → votes_in cs x ≡ false) → is_some (cond b (Some d) (find (λ c. c.transaction == x) cs)) ≡ false
    go true k ih = k
    go false k ih = ih k

votes_rest : (y x : ℕ) → (x == y) ≡ false → (cs : List Commit) → votes_in (filter (λ c. not (c.transaction == y)) cs) x ≡ false → votes_in cs x ≡ false
votes_rest y x n [] e = refl
votes_rest y x n (c ∷ cs) e = go (c.transaction == y) refl (c.transaction == x) refl e (votes_rest y x n cs)
  where
    rest : List Commit
    rest = filter (λ c. not (c.transaction == y)) cs

    go : (a : Bool) → (c.transaction == y) ≡ a → (b : Bool) → (c.transaction == x) ≡ b → votes_in (cond (not a) (c ∷ rest) rest) x ≡ false → (votes_in rest x ≡ false → votes_in cs x ≡ false)
        → is_some (cond b (Some c) (find (λ c. c.transaction == x) cs)) ≡ false
    go true k true l q ih = let w : (x == y) ≡ true = eq-eqb x y (sym (eqb-true c.transaction x l) ∙ eqb-true c.transaction y k) in absurd (true≢false (sym w ∙ n))
    go true k false l q ih = ih q
    go false k true l q ih = absurd (cc (rw l at q))
    go false k false l q ih = ih (rw l at q)

-- the transactions that are left
standing_rest : (t x : ℕ) (cs : List Commit) (ts : List Transaction) → Each (Standing t cs) ts → Each (Standing t (filter (λ c. not (c.transaction == x)) cs)) (filter (λ z. not (z.number == x)) ts)
standing_rest t x cs ts h = each_kept (Standing t cs) (Standing t (filter (λ c. not (c.transaction == x)) cs)) (λ z. not (z.number == x)) (λ z e s k. s (votes_rest x z.number (not-true (z.number == x) e) cs k)) ts h

-- ---- the changes

pub over_close : (t : ℕ) (st : State) (s : ℕ) → NoneOver t st → NoneOver t (close st s)
over_close t st s h = record {
  time = h.time;
  rows = h.rows;
  registrations = ahead_kept registration_end t _ st.registrations h.registrations;
  transactions = h.transactions;
  blocked = ahead_kept blocked_end t _ st.blocked h.blocked;
  sets = ahead_kept set_end t _ st.sets h.sets;
}

pub over_unblock : (t : ℕ) (st : State) (n : ℕ) → NoneOver t st → NoneOver t (unblock st n)
over_unblock t st n h = record { time = h.time; rows = h.rows; registrations = h.registrations; transactions = h.transactions; blocked = ahead_kept blocked_end t _ st.blocked h.blocked; sets = h.sets }

over_new : (t : ℕ) (st : State) (x space : ℕ) (b : Bool) → NoneOver t st
    → NoneOver t (cond b st (record st { transactions = update (λ t. t.number == x) (λ (t : Transaction). record t { joined = t.joined ++ newly_joined st space ∷ [] }) st.transactions }))
over_new t st x space true h = h
over_new t st x space false h = record {
  time = h.time;
  rows = h.rows;
  registrations = h.registrations;
  transactions = each_touched (Standing t st.commits) (λ t. t.number == x) (λ (t : Transaction). record t { joined = t.joined ++ newly_joined st space ∷ [] }) (λ z s. s) st.transactions h.transactions;
  blocked = h.blocked;
  sets = h.sets;
}

pub over_join : (t : ℕ) (st : State) (o : Option ℕ) (space : ℕ) → NoneOver t st → NoneOver t (join st o space)
over_join t st None space h = h
over_join t st (Some x) space h = over_new t st x space (is_some (joined_at st x space)) h

pub over_owe : (t : ℕ) (o : Option ℕ) (st : State) (row : Row) → NoneOver t st → NoneOver t (owe o st row)
over_owe t o st row h = record {
  time = h.time;
  rows = h.rows;
  registrations = ahead_touched registration_end t _ (λ (r : Registration). record r { owed = r.owed ++ row.number ∷ [] }) (λ r. refl) st.registrations h.registrations;
  transactions = h.transactions;
  blocked = h.blocked;
  sets = h.sets;
}

over_put : (t : ℕ) (st : State) (row : Row) → t < row.end → NoneOver t st → NoneOver t (add_row st row)
over_put t st row e h =
    over_owe t row.writer (record st { rows = st.rows ++ row ∷ []; next_number = st.next_number + 1 }) row
    (record { time = h.time; rows = ahead_pushed row_end t st.rows row e h.rows; registrations = h.registrations; transactions = h.transactions; blocked = h.blocked; sets = h.sets })

later : (time t ms : ℕ) → time ≡ t → 0 < ms → t < time + ms
later time t ms e h = omega (arith, e, h)

pub over_write : (t : ℕ) (st : State) (w : WriteRequest) → 0 < ms_of w.lease → NoneOver t st → NoneOver t (write st w)
over_write t st w l h = fold_keeps (NoneOver t) (λ b raw. add_row b (new_row b w raw)) (λ b raw k. over_put t b (new_row b w raw) (later b.time t (ms_of w.lease) k.time l) k) w.entries (join st (caller_of w.txn) (place_of st w.space)) (over_join t st (caller_of w.txn) (place_of st w.space) h)

given_ahead : (t : ℕ) (b take : Bool) (x : Option ℕ) (r : Row) → t < r.end → Ahead row_end t (after_giving b take x r)
given_ahead t true true None r h = tt
given_ahead t true true (Some x) r h = (h, tt)
given_ahead t true false None r h = (h, tt)
given_ahead t true false (Some x) r h = (h, tt)
given_ahead t false take x r h = (h, tt)

pub over_give : (t : ℕ) (st : State) (b : Blocked) (ns : List ℕ) → NoneOver t st → NoneOver t (give st b ns)
over_give t st b ns h = record {
  time = h.time;
  rows = each_flat (λ (r : Row). t < r.end) (λ (r : Row). t < r.end) _ (λ r k. given_ahead t (contains ns r.number) (is_take b.form) b.transaction r k) st.rows h.rows;
  registrations = h.registrations;
  transactions = h.transactions;
  blocked = h.blocked;
  sets = h.sets;
}

pub over_block : (t : ℕ) (st : State) (b : Blocked) → t < b.end → NoneOver t st → NoneOver t (block st b)
over_block t st b e h = record { time = h.time; rows = h.rows; registrations = h.registrations; transactions = h.transactions; blocked = ahead_pushed blocked_end t st.blocked b e h.blocked; sets = h.sets }

pub over_register : (t : ℕ) (st : State) (s : ℕ) (q : Notify) → 0 < ms_of q.lease → NoneOver t st → NoneOver t (register st s q)
over_register t st s q l h =
    let j = over_join t st (caller_of q.txn) (place_of st q.space) h in
    record { time = j.time; rows = j.rows; registrations = ahead_pushed registration_end t st.registrations _ (later st.time t (ms_of q.lease) h.time l) h.registrations; transactions = j.transactions; blocked = j.blocked; sets = j.sets }

pub over_open_set : (t : ℕ) (st : State) (s : ℕ) (q : Contents) → 0 < ms_of q.lease → NoneOver t st → NoneOver t (open_set st s q)
over_open_set t st s q l h =
    let j = over_join t st (caller_of q.txn) (place_of st q.space) h in
    record { time = j.time; rows = j.rows; registrations = j.registrations; transactions = j.transactions; blocked = j.blocked; sets = ahead_pushed set_end t st.sets _ (later st.time t (ms_of q.lease) h.time l) h.sets }

pub over_begin : (t : ℕ) (st : State) (lease : ℤ) → 0 < ms_of lease → NoneOver t st → NoneOver t (begin st lease)
over_begin t st lease l h = record {
  time = h.time;
  rows = h.rows;
  registrations = h.registrations;
  transactions = each_append (Standing t st.commits) st.transactions _ h.transactions ((λ k. later st.time t (ms_of lease) h.time l), tt);
  blocked = h.blocked;
  sets = h.sets;
}

pub over_turn : (t : ℕ) (st : State) (n most : ℕ) → NoneOver t st → NoneOver t (turn_page st n most)
over_turn t st n most h = record { time = h.time; rows = h.rows; registrations = h.registrations; transactions = h.transactions; blocked = h.blocked; sets = each_touched (λ (m : MatchSet). t < m.end) (λ m. m.number == n) (to_cursor (last_or None (map (λ row. row.number) (page_of st n most)))) (λ m k. k) st.sets h.sets }

pub over_ask_commit : (t : ℕ) (st : State) (s id x : ℕ) → NoneOver t st → NoneOver t (ask_commit st s id x)
over_ask_commit t st s id x h = record {
  time = h.time;
  rows = h.rows;
  registrations = h.registrations;
  transactions = each_weaker (Standing t st.commits) (Standing t (ask_commit st s id x).commits) (λ z k q. k (votes_more st.commits (record { transaction = x; session = s; id = id }) z.number q)) st.transactions h.transactions;
  blocked = ahead_kept blocked_end t _ st.blocked h.blocked;
  sets = ahead_kept set_end t _ st.sets h.sets;
}

pub over_forget : (t : ℕ) (st : State) (x : ℕ) (rows : List Row) → Ahead row_end t rows → NoneOver t st → NoneOver t (record (forget st x) { rows = rows })
over_forget t st x rows e h = record {
  time = h.time;
  rows = e;
  registrations = ahead_kept registration_end t _ st.registrations h.registrations;
  transactions = standing_rest t x st.commits st.transactions h.transactions;
  blocked = ahead_kept blocked_end t _ st.blocked h.blocked;
  sets = ahead_kept set_end t _ st.sets h.sets;
}

pub over_abort : (t : ℕ) (st : State) (x : ℕ) → NoneOver t st → NoneOver t (abort st x)
over_abort t st x h = over_forget t st x _ (each_map (λ (r : Row). t < r.end) (λ (r : Row). t < r.end) (unread x) (λ r k. k) _ (each_touched (λ (r : Row). t < r.end) (λ row. is_caller row.taker x) (λ (row : Row). record row { taker = None }) (λ r k. k) _ (each_filter (λ (r : Row). t < r.end) _ st.rows h.rows))) h

pub over_commit : (t : ℕ) (st : State) (x : ℕ) → NoneOver t st → NoneOver t (commit st x)
over_commit t st x h =
    fold_keeps (NoneOver t) (owe None) (λ b r k. over_owe t None b r k) (published x st.rows) (record (forget st x) { rows = committed x st.rows })
    (over_forget t st x _ (each_map (λ (r : Row). t < r.end) (λ (r : Row). t < r.end) (unread x) (λ r k. k) _ (each_touched (λ (r : Row). t < r.end) (λ row. is_caller row.writer x) (λ (row : Row). record row { writer = None }) (λ r k. k) _ (each_filter (λ (r : Row). t < r.end) _ st.rows h.rows))) h)

pub over_cast : (t : ℕ) (st : State) (x : ℕ) (j : Joined) → NoneOver t st → NoneOver t (cast st x j)
over_cast t st x j h = record {
  time = h.time;
  rows = each_touched (λ (r : Row). t < r.end) _ (unread x) (λ r k. k) st.rows h.rows;
  registrations = h.registrations;
  transactions = each_touched (Standing t st.commits) _ _ (λ z k. k) st.transactions h.transactions;
  blocked = h.blocked;
  sets = h.sets;
}

pub over_reset : (t : ℕ) (st : State) (space : ℕ) → NoneOver t st → NoneOver t (reset st space)
over_reset t st space h = record {
  time = h.time;
  rows = ahead_kept row_end t _ st.rows h.rows;
  registrations = ahead_kept registration_end t _ st.registrations h.registrations;
  transactions = h.transactions;
  blocked = ahead_kept blocked_end t _ st.blocked h.blocked;
  sets = ahead_kept set_end t _ st.sets h.sets;
}

pub over_remove : (t : ℕ) (st : State) (r : Rank) (n : ℕ) → NoneOver t st → NoneOver t (remove st r n)
over_remove t st rank.Entry n h = record { time = h.time; rows = ahead_kept row_end t _ st.rows h.rows; registrations = h.registrations; transactions = h.transactions; blocked = h.blocked; sets = h.sets }
over_remove t st rank.Registration n h = record { time = h.time; rows = h.rows; registrations = ahead_kept registration_end t _ st.registrations h.registrations; transactions = h.transactions; blocked = h.blocked; sets = h.sets }
over_remove t st rank.Transaction n h = over_abort t st n h
over_remove t st rank.Blocked n h = over_unblock t st n h
over_remove t st rank.MatchSet n h = record { time = h.time; rows = h.rows; registrations = h.registrations; transactions = h.transactions; blocked = h.blocked; sets = ahead_kept set_end t _ st.sets h.sets }

pub over_extend : (t : ℕ) (st : State) (end : ℕ) (r : Rank) (n : ℕ) → t < end → NoneOver t st → NoneOver t (extend st end r n)
over_extend t st end rank.Entry n e h = record { time = h.time; rows = ahead_moved row_end t _ (λ (r : Row). record r { end = end }) (λ r. e) st.rows h.rows; registrations = h.registrations; transactions = h.transactions; blocked = h.blocked; sets = h.sets }
over_extend t st end rank.Registration n e h = record { time = h.time; rows = h.rows; registrations = ahead_moved registration_end t _ (λ (r : Registration). record r { end = end }) (λ r. e) st.registrations h.registrations; transactions = h.transactions; blocked = h.blocked; sets = h.sets }
over_extend t st end rank.Transaction n e h = record { time = h.time; rows = h.rows; registrations = h.registrations; transactions = each_touched (Standing t st.commits) (λ t. t.number == n) (λ (t : Transaction). record t { end = end }) (λ z k q. e) st.transactions h.transactions; blocked = h.blocked; sets = h.sets }
over_extend t st end rank.Blocked n e h = h
over_extend t st end rank.MatchSet n e h = record { time = h.time; rows = h.rows; registrations = h.registrations; transactions = h.transactions; blocked = h.blocked; sets = ahead_moved set_end t _ (λ (m : MatchSet). record m { end = end }) (λ m. e) st.sets h.sets }
