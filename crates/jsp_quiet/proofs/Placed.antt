-- Each legal step keeps marks, waiting requests and stored classes where they belong.
use Rattle.std.proofs.Common.{◌≡◌, refl, sym, ap, subst, ℕ, ℤ, ◌+◌, List, [], ◌∷◌, ◌++◌, Bool, true, false, not, cond, ◌||◌, ⊎_elim, filter, fold, Option, Some, None, unwrap_or, ◌==◌, bytes_eq, eqb-true}
use Rattle.std.specs.Prelude.{position}
use Rattle.jsp_lease.specs.Granted.{ms_of}
use Rattle.std.specs.List.{list_any}
use Rattle.std.specs.Option.{option_map_or}
use Rattle.jsp_types.specs.declared.class.Class.{Class}
use Rattle.jsp_types.specs.declared.entry.Raw.{Raw}
use Rattle.jsp_types.specs.Classes.{is_declared}
use Rattle.jsp_types.specs.Matching.{is_unknown}
use Rattle.jsp_wire.specs.declared.ask.Notify.{Notify}
use Rattle.jsp_wire.specs.declared.ask.Contents.{Contents}
use Rattle.jsp_model.specs.declared.state.State.{State}
use Rattle.jsp_model.specs.declared.state.Row.{Row}
use Rattle.jsp_model.specs.declared.state.Blocked.{Blocked}
use Rattle.jsp_model.specs.declared.state.Transaction.{Transaction}
use Rattle.jsp_lease.specs.declared.item.Rank.{Rank}
use Rattle.jsp_lease.specs.declared.item.Rank.TheVariants as rank
use Rattle.jsp_model.specs.Lookup.{contains, named, is_caller, rank_of}
use Rattle.jsp_model.specs.Sight.{is_take}
use Rattle.jsp_model.specs.Requests.{WriteRequest, RowRequest, as_blocked, would_block, caller_of, place_of}
use Rattle.jsp_model.specs.Changes.{owe, add_row, new_row, write, give, block, give_or_block, register, open_set, close, unread, forget, aborted, abort, committed, published, commit, remove, extend, renew, cancel, reset}
use Rattle.jsp_model.specs.Steps.{is_choice}
use Rattle.jsp_laws.proofs.Lists.{Each, each_weaker, each_both, each_filter, each_map, each_touched, each_append, each_flat, contains_without, contains_pushed, fold_keeps}
use Rattle.jsp_laws.proofs.Living.{lives}
use Rattle.jsp_laws.proofs.Change.{Kind, Lives, extended, Change, aborts, commits}
use Rattle.jsp_laws.proofs.Sound.{IsSound, MarksLive, after_giving, row_number, sound_change}
use Rattle.jsp_laws.proofs.Made.{choice_available}
use Rattle.jsp_laws.proofs.Joins.{joined_change}
use Rattle.jsp_laws.proofs.Rising.{Rising}
use Rattle.jsp_quiet.specs.Steady.{spaces_of, HasJoined, RowFits, RequestFits, IsPlaced}
use Rattle.jsp_quiet.proofs.Spaces.{stays_joined, Widens, widens_reshaped, joining, given_there}

-- what is said of a change that neither commits nor votes, and may abort
abbrev pub plain : Kind
plain = record { committed = None; asked = None; aborting = true; vote = None; recorded = None; released = None; told = None; owing = false; opening = false; turned = None }

-- ---- rows

row_widened : (classes : List Class) (ts us : List Transaction) → Widens ts us → (r : Row) → RowFits classes ts r → RowFits classes us r
row_widened classes ts us w r f = record {
  writer = λ x e. w x r.space (f.writer x e);
  taker = λ x e. w x r.space (f.taker x e);
  readers = λ x e. w x r.space (f.readers x e);
  declared = f.declared;
}

pub row_unread : (classes : List Class) (ts : List Transaction) (x : ℕ) (r : Row) → RowFits classes ts r → RowFits classes ts (unread x r)
row_unread classes ts x r f = record { writer = f.writer; taker = f.taker; readers = λ y e. f.readers y (contains_without x r.readers y e).0; declared = f.declared }

row_given : (classes : List Class) (ts : List Transaction) (b take : Bool) (x : Option ℕ) (space : ℕ) → HasJoined ts x space → (r : Row) → (b ≡ true → r.space ≡ space) → RowFits classes ts r → Each (RowFits classes ts) (after_giving b take x r)
row_given classes ts true true None space j r here f = tt
row_given classes ts true true (Some x) space j r here f =
    (record { writer = f.writer; taker = λ y e. subst (λ s. contains (spaces_of ts y) s ≡ true) (sym (here refl)) (j y e); readers = f.readers; declared = f.declared }, tt)
row_given classes ts true false None space j r here f = (f, tt)
row_given classes ts true false (Some x) space j r here f = (record { writer = f.writer; taker = f.taker; readers = go (contains r.readers x); declared = f.declared }, tt)
  where
    go : (d : Bool) → (y : ℕ) → contains (cond d r.readers (r.readers ++ x ∷ [])) y ≡ true → contains (spaces_of ts y) r.space ≡ true
    go true y k = f.readers y k
    go false y k = ⊎_elim (λ q. f.readers y q) (λ q. subst (λ s. contains (spaces_of ts y) s ≡ true) (sym (here refl)) (j y (ap Some q))) (contains_pushed r.readers x y k)
row_given classes ts false take x space j r here f = (f, tt)

-- ---- what keeps the rows and the requests, or lets some go

pub with_rows : (st : State) (rows : List Row) → Each (RowFits st.classes st.transactions) rows → IsPlaced st → IsPlaced (record st { rows = rows })
with_rows st rows k h = record { rows = k; blocked = h.blocked; parents = h.parents }

pub with_blocked : (st : State) (t : Blocked → Bool) → IsPlaced st → IsPlaced (record st { blocked = filter t st.blocked })
with_blocked st t h = record { rows = h.rows; blocked = each_filter (RequestFits st.transactions) t st.blocked h.blocked; parents = h.parents }

pub with_transactions : (st : State) (ts : List Transaction) → Widens st.transactions ts → IsPlaced st → IsPlaced (record st { transactions = ts })
with_transactions st ts w h = record {
  rows = each_weaker (RowFits st.classes st.transactions) (RowFits st.classes ts) (row_widened st.classes st.transactions ts w) st.rows h.rows;
  blocked = each_weaker (RequestFits st.transactions) (RequestFits ts) (λ b j x e. w x b.space (j x e)) st.blocked h.blocked;
  parents = h.parents;
}

pub placed_close : (st : State) (s : ℕ) → IsPlaced st → IsPlaced (close st s)
placed_close st s h = record { rows = h.rows; blocked = each_filter (RequestFits st.transactions) _ st.blocked h.blocked; parents = h.parents }

pub placed_owe : (o : Option ℕ) (st : State) (r : Row) → IsPlaced st → IsPlaced (owe o st r)
placed_owe o st r h = record { rows = h.rows; blocked = h.blocked; parents = h.parents }

pub placed_reset : (st : State) (space : ℕ) → IsPlaced st → IsPlaced (reset st space)
placed_reset st space h = record {
  rows = each_filter (RowFits st.classes st.transactions) _ st.rows h.rows;
  blocked = each_filter (RequestFits st.transactions) _ st.blocked h.blocked;
  parents = h.parents;
}

-- ---- the end of a transaction

-- marks of those that still stand
left_fits : {c : Kind} (st st' : State) → Change c st st' → (rows : List Row) → Each (RowFits st.classes st.transactions) rows → Each (MarksLive st'.transactions) rows → Each (RowFits st.classes st'.transactions) rows
left_fits st st' k rows h l =
    each_weaker (λ r. RowFits st.classes st.transactions r × MarksLive st'.transactions r) (RowFits st.classes st'.transactions)
    (λ r p. record {
      writer = λ x e. stays r x (p.1.writer x e) (p.0.writer x e);
      taker = λ x e. stays r x (p.1.taker x e) (p.0.taker x e);
      readers = λ x e. stays r x (p.1.readers x e) (p.0.readers x e);
      declared = p.0.declared;
    })
    rows (each_both (RowFits st.classes st.transactions) (MarksLive st'.transactions) rows h l)
  where
    stays : (r : Row) (x : ℕ) → lives st'.transactions x ≡ true → contains (spaces_of st.transactions x) r.space ≡ true → contains (spaces_of st'.transactions x) r.space ≡ true
    stays r x l e = stays_joined x st.transactions st'.transactions r.space (joined_change x k) l e

left_waits : {c : Kind} (st st' : State) → Change c st st' → (bs : List Blocked) → Each (RequestFits st.transactions) bs → Each (λ (b : Blocked). Lives st'.transactions b.transaction) bs → Each (RequestFits st'.transactions) bs
left_waits st st' k bs h l =
    each_weaker (λ b. RequestFits st.transactions b × Lives st'.transactions b.transaction) (RequestFits st'.transactions)
    (λ b p x e. stays_joined x st.transactions st'.transactions b.space (joined_change x k) (p.1 x e) (p.0 x e))
    bs (each_both (RequestFits st.transactions) (λ (b : Blocked). Lives st'.transactions b.transaction) bs h l)

aborted_fit : (classes : List Class) (ts : List Transaction) (x : ℕ) (rows : List Row) → Each (RowFits classes ts) rows → Each (RowFits classes ts) (aborted x rows)
aborted_fit classes ts x rows h =
    each_map (RowFits classes ts) (RowFits classes ts) (unread x) (row_unread classes ts x) _
    (each_touched (RowFits classes ts) (λ row. is_caller row.taker x) (λ (row : Row). record row { taker = None }) (λ r f. record { writer = f.writer; taker = λ y e. absurd (cc); readers = f.readers; declared = f.declared }) _
    (each_filter (RowFits classes ts) _ rows h))

committed_fit : (classes : List Class) (ts : List Transaction) (x : ℕ) (rows : List Row) → Each (RowFits classes ts) rows → Each (RowFits classes ts) (committed x rows)
committed_fit classes ts x rows h =
    each_map (RowFits classes ts) (RowFits classes ts) (unread x) (row_unread classes ts x) _
    (each_touched (RowFits classes ts) (λ row. is_caller row.writer x) (λ (row : Row). record row { writer = None }) (λ r f. record { writer = λ y e. absurd (cc); taker = f.taker; readers = f.readers; declared = f.declared }) _
    (each_filter (RowFits classes ts) _ rows h))

pub placed_abort : (st : State) (x : ℕ) → IsSound st → IsPlaced st → IsPlaced (abort st x)
placed_abort st x s h =
    let k : Change plain st (abort st x) = aborts x refl refl in
    let s' : IsSound (abort st x) = sound_change k s in
    record {
      rows = left_fits st (abort st x) k (aborted x st.rows) (aborted_fit st.classes st.transactions x st.rows h.rows) s'.rows_live;
      blocked = left_waits st (abort st x) k _ (each_filter (RequestFits st.transactions) _ st.blocked h.blocked) s'.blocked_live;
      parents = h.parents;
    }

pub placed_commit : (st : State) (x : ℕ) → IsSound st → IsPlaced st → IsPlaced (commit st x)
placed_commit st x s h =
    let freed : State = record (forget st x) { rows = committed x st.rows } in
    let k : Change (record { committed = Some x; asked = None; aborting = false; vote = None; recorded = None; released = None; told = None; owing = false; opening = false; turned = None }) st freed = commits x refl in
    let s' : IsSound freed = sound_change k s in
    fold_keeps IsPlaced (owe None) (λ b r q. placed_owe None b r q) (published x st.rows) freed (record {
      rows = left_fits st freed k (committed x st.rows) (committed_fit st.classes st.transactions x st.rows h.rows) s'.rows_live;
      blocked = left_waits st freed k _ (each_filter (RequestFits st.transactions) _ st.blocked h.blocked) s'.blocked_live;
      parents = h.parents;
    })

-- ---- leases

pub placed_remove : (st : State) (r : Rank) (n : ℕ) → IsSound st → IsPlaced st → IsPlaced (remove st r n)
placed_remove st rank.Entry n s h = with_rows st _ (each_filter (RowFits st.classes st.transactions) _ st.rows h.rows) h
placed_remove st rank.Registration n s h = record { rows = h.rows; blocked = h.blocked; parents = h.parents }
placed_remove st rank.Transaction n s h = placed_abort st n s h
placed_remove st rank.Blocked n s h = with_blocked st _ h
placed_remove st rank.MatchSet n s h = record { rows = h.rows; blocked = h.blocked; parents = h.parents }

pub placed_extend : (st : State) (end : ℕ) (r : Rank) (n : ℕ) → IsPlaced st → IsPlaced (extend st end r n)
placed_extend st end rank.Entry n h = with_rows st _ (each_touched (RowFits st.classes st.transactions) (λ r. r.number == n) (λ (r : Row). record r { end = end }) (λ r f. record { writer = f.writer; taker = f.taker; readers = f.readers; declared = f.declared }) st.rows h.rows) h
placed_extend st end rank.Registration n h = record { rows = h.rows; blocked = h.blocked; parents = h.parents }
placed_extend st end rank.Transaction n h = with_transactions st _ (widens_reshaped {c = plain} {st = st} (extended end n)) h
placed_extend st end rank.Blocked n h = h
placed_extend st end rank.MatchSet n h = record { rows = h.rows; blocked = h.blocked; parents = h.parents }

-- ---- requests

none_unknown : (classes : List Class) (raws : List Raw) → list_any (is_unknown classes) raws ≡ false → Each (λ (raw : Raw). is_declared classes raw.class ≡ true) raws
none_unknown classes [] e = tt
none_unknown classes (raw ∷ raws) e = go (is_declared classes raw.class) refl e (none_unknown classes raws)
  where
    go : (b : Bool) → is_declared classes raw.class ≡ b → (not b || list_any (is_unknown classes) raws) ≡ false → (list_any (is_unknown classes) raws ≡ false → Each (λ (r : Raw). is_declared classes r.class ≡ true) raws)
        → (is_declared classes raw.class ≡ true) × Each (λ (r : Raw). is_declared classes r.class ≡ true) raws
    go true k q ih = (k, ih q)
    go false k q ih = absurd (cc)

-- a state in which entries are being written
record Writing (st : State) (w : WriteRequest) (b : State) : Type 0 where
  placed : IsPlaced b
  joined : HasJoined b.transactions (caller_of w.txn) (place_of st w.space)
  classes : b.classes ≡ st.classes
  spaces : b.spaces ≡ st.spaces

row_written : (st : State) (w : WriteRequest) (raw : Raw) (b : State) → is_declared st.classes raw.class ≡ true → Writing st w b → Writing st w (add_row b (new_row b w raw))
row_written st w raw b d g =
    let place : place_of b w.space ≡ place_of st w.space = ap (λ spaces. unwrap_or (position (λ p. bytes_eq p.name w.space) spaces) 0) g.spaces in
    record {
      placed = record {
        rows = each_append (RowFits b.classes b.transactions) b.rows (new_row b w raw ∷ []) g.placed.rows (
          record {
            writer = subst (λ p. HasJoined b.transactions (caller_of w.txn) p) (sym place) g.joined;
            taker = λ x e. absurd (cc);
            readers = λ x e. absurd (cc);
            declared = subst (λ classes. is_declared classes raw.class ≡ true) (sym g.classes) d;
          },
          tt,
        );
        blocked = g.placed.blocked;
        parents = g.placed.parents;
      };
      joined = g.joined;
      classes = g.classes;
      spaces = g.spaces;
    }

rows_written : (st : State) (w : WriteRequest) (raws : List Raw) → Each (λ (raw : Raw). is_declared st.classes raw.class ≡ true) raws → (b : State) → Writing st w b → IsPlaced (fold (λ b raw. add_row b (new_row b w raw)) b raws)
rows_written st w [] d b g = g.placed
rows_written st w (raw ∷ raws) (d, ds) b g = rows_written st w raws ds (add_row b (new_row b w raw)) (row_written st w raw b d g)

pub placed_write : (st : State) (w : WriteRequest) → Lives st.transactions (caller_of w.txn) → list_any (is_unknown st.classes) w.entries ≡ false → IsPlaced st → IsPlaced (write st w)
placed_write st w l e h =
    let j = joining st (caller_of w.txn) (place_of st w.space) in
    subst (λ k. IsPlaced (fold (λ b raw. add_row b (new_row b w raw)) k w.entries)) (sym j.is)
    (rows_written st w w.entries (none_unknown st.classes w.entries e) (record st { transactions = j.ts }) (record { placed = with_transactions st j.ts j.widens h; joined = j.has l; classes = refl; spaces = refl }))

pub placed_give : (st : State) (b : Blocked) (ns : List ℕ) → Each (λ (r : Row). contains ns r.number ≡ true → (r.space == b.space) ≡ true) st.rows → HasJoined st.transactions b.transaction b.space → IsPlaced st → IsPlaced (give st b ns)
placed_give st b ns there j h =
    with_rows st _ (flat (each_both (λ (r : Row). contains ns r.number ≡ true → (r.space == b.space) ≡ true) (RowFits st.classes st.transactions) st.rows there h.rows)) h
  where
    Both : Row → Type 0
    Both r = (contains ns r.number ≡ true → (r.space == b.space) ≡ true) × RowFits st.classes st.transactions r

    flat : Each Both st.rows → Each (RowFits st.classes st.transactions) (give st b ns).rows
    flat k = each_flat Both (RowFits st.classes st.transactions) _ (λ r p. row_given st.classes st.transactions (contains ns r.number) (is_take b.form) b.transaction b.space j r (λ e. eqb-true r.space b.space (p.0 e)) p.1) st.rows k

pub placed_block : (st : State) (b : Blocked) → HasJoined st.transactions b.transaction b.space → IsPlaced st → IsPlaced (block st b)
placed_block st b j h = record { rows = h.rows; blocked = each_append (RequestFits st.transactions) st.blocked (b ∷ []) h.blocked (j, tt); parents = h.parents }

pub choose : (P : State → Type 0) (b : Bool) (x y : State) → P x → P y → P (cond b x y)
choose P true x y p q = p
choose P false x y p q = q

pub placed_seek : (st : State) (s id : ℕ) (q : RowRequest) (ns : List ℕ) → Lives st.transactions (caller_of q.txn) → Rising row_number st.rows → is_choice st (as_blocked st s id q) ns ≡ true → IsPlaced st → IsPlaced (give_or_block st s id q ns)
placed_seek st s id q ns l rise e h =
    let b = as_blocked st s id q in
    let j = joining st (caller_of q.txn) (place_of st q.space) in
    let k : State = record st { transactions = j.ts } in
    let p : IsPlaced k = with_transactions st j.ts j.widens h in
    subst (λ k. IsPlaced (cond (would_block st s id q) (block k b) (give k b ns))) (sym j.is)
    (choose IsPlaced (would_block st s id q) (block k b) (give k b ns) (placed_block k b (j.has l) p)
    (placed_give k b ns (given_there st b ns rise (choice_available st b ns e)) (j.has l) p))

pub placed_register : (st : State) (s : ℕ) (q : Notify) → IsPlaced st → IsPlaced (register st s q)
placed_register st s q h =
    let j = joining st (caller_of q.txn) (place_of st q.space) in
    let p : IsPlaced (record st { transactions = j.ts }) = with_transactions st j.ts j.widens h in
    subst (λ (k : State). IsPlaced (record k { registrations = (register st s q).registrations; next_number = st.next_number + 1 })) (sym j.is)
    (record { rows = p.rows; blocked = p.blocked; parents = p.parents })

pub placed_open_set : (st : State) (s : ℕ) (q : Contents) → IsPlaced st → IsPlaced (open_set st s q)
placed_open_set st s q h =
    let j = joining st (caller_of q.txn) (place_of st q.space) in
    let p : IsPlaced (record st { transactions = j.ts }) = with_transactions st j.ts j.widens h in
    subst (λ (k : State). IsPlaced (record k { sets = (open_set st s q).sets; next_number = st.next_number + 1 })) (sym j.is)
    (record { rows = p.rows; blocked = p.blocked; parents = p.parents })

pub placed_renew : (st : State) (lease ms : ℤ) → IsPlaced st → IsPlaced (renew st lease ms)
placed_renew st lease ms h = go (rank_of st (named lease))
  where
    go : (o : Option Rank) → IsPlaced (option_map_or (λ r. extend st (st.time + ms_of ms) r (named lease)) o st)
    go None = h
    go (Some r) = placed_extend st _ r (named lease) h

pub placed_cancel : (st : State) (lease : ℤ) → IsSound st → IsPlaced st → IsPlaced (cancel st lease)
placed_cancel st lease s h = go (rank_of st (named lease))
  where
    go : (o : Option Rank) → IsPlaced (option_map_or (λ r. remove st r (named lease)) o st)
    go None = h
    go (Some r) = placed_remove st r (named lease) s h
