-- What goes on waiting over a step, and what comes to wait.
use Rattle.std.proofs.Common.{◌≡◌, refl, sym, ap, ◌∙◌, subst, ℕ, ℤ, ◌+◌, ◌≤◌, ◌⊎◌, inl, inr, List, [], ◌∷◌, ◌++◌, Bool, true, false, not, cond, ◌||◌, ◌&&◌, filter, fold, Option, Some, None, ◌==◌, append_assoc, append-nil, arith, true≢false}
use Rattle.std.specs.Option.{option_map_or}
use Rattle.std.specs.Prelude.{IfSome, nat_lt}
use Rattle.std.proofs.lemmas.Bool.{and_parts, or_parts, false_from_ne_true}
use Rattle.jsp_types.specs.declared.entry.Raw.{Raw}
use Rattle.jsp_wire.specs.declared.ask.Ask.{Ask}
use Rattle.jsp_wire.specs.declared.ask.Ask.TheVariants as ask
use Rattle.jsp_wire.specs.declared.ask.Notify.{Notify}
use Rattle.jsp_wire.specs.declared.ask.Contents.{Contents}
use Rattle.jsp_reply.specs.declared.refusal.Refusal.{Refusal}
use Rattle.jsp_model.specs.declared.state.State.{State}
use Rattle.jsp_model.specs.declared.state.Row.{Row}
use Rattle.jsp_model.specs.declared.state.Blocked.{Blocked}
use Rattle.jsp_model.specs.declared.state.Joined.{Joined}
use Rattle.jsp_model.specs.declared.state.Form.TheVariants as form
use Rattle.jsp_lease.specs.declared.item.Rank.{Rank}
use Rattle.jsp_lease.specs.declared.item.Rank.TheVariants as rank
use Rattle.jsp_lease.specs.Granted.{ms_of}
use Rattle.jsp_model.specs.declared.step.Step.{Step}
use Rattle.jsp_model.specs.declared.step.Step.TheVariants as step
use Rattle.jsp_model.specs.Lookup.{contains, named, is_caller, rank_of, joined_at, blocked_of}
use Rattle.jsp_model.specs.Sight.{wants}
use Rattle.jsp_model.specs.Quiet.{must_wait}
use Rattle.jsp_model.specs.Refusals.{refusal}
use Rattle.jsp_model.specs.Requests.{WriteRequest, RowRequest, one_entry, all_entries, one_row, many_rows, rows_asked, as_blocked, would_block, caller_of, place_of}
use Rattle.jsp_model.specs.Changes.{owe, add_row, new_row, write, give, block, give_or_block, register, open_set, close, unread, forget, committed, published, commit, abort, is_not_changed, vote_of, cast, remove, extend, renew, cancel, accepted}
use Rattle.jsp_model.specs.Steps.{after_ask, is_too_long, after_grant, change, next}
use Rattle.jsp_laws.proofs.Lists.{Each, Has, each_weaker, each_both, each_has, each_itself, fold_keeps}
use Rattle.jsp_quiet.specs.Waking.{is_marked, ask_moves, moves, ask_moves_any, moves_any}
use Rattle.jsp_quiet.proofs.Lists.{kept_alike, mapped_alike, updated_alike, added_alike, each_parts}
use Rattle.jsp_quiet.proofs.Still.{wanted, waits, waits_within}
use Rattle.jsp_quiet.proofs.Spaces.{joining}
use Rattle.jsp_quiet.proofs.Placed.{choose}
use Rattle.jsp_quiet.proofs.Moves.{SeesNoMarks, Unmarked, unread_same, given_alike, aborted_alike, committed_alike}
use Rattle.jsp_quiet.proofs.Asking.{Asked, blocked_step, choose_by}

-- ---- what a request that waits sees

-- the classes stay, and the rows that pass the test
record Alike (q : Row → Bool) (a b : State) : Type 0 where
  classes : b.classes ≡ a.classes
  rows : filter q b.rows ≡ filter q a.rows

alike_none : (q : Row → Bool) (st : State) → Alike q st st
alike_none q st = record { classes = refl; rows = refl }

waits_alike : (a b : State) (x : Blocked) → Alike (wanted a.classes x) a b → must_wait a x ≡ must_wait b x
waits_alike a b x s =
    let q = wanted a.classes x in
    sym (waits_within a.classes a.rows x q (λ r k. k))
    ∙ ap (λ rows. waits a.classes rows x) (sym s.rows)
    ∙ ap (λ classes. waits classes (filter q b.rows) x) (sym s.classes)
    ∙ waits_within b.classes b.rows x q (λ r k. subst (λ classes. wanted classes x r ≡ false) (sym s.classes) k)

-- ---- rows that aren't moved

-- the second test passes no row that the first one passes
abbrev Unmoved : (Row → Bool) → (Row → Bool) → Row → Type 0
Unmoved q m r = q r ≡ true → m r ≡ false

unmoved_both : (q m n : Row → Bool) (rows : List Row) → Each (Unmoved q (λ r. m r || n r)) rows → Each (Unmoved q m) rows × Each (Unmoved q n) rows
unmoved_both q m n rows h = (
  each_weaker (Unmoved q (λ r. m r || n r)) (Unmoved q m) (λ r k e. (or_parts (m r) (n r) (k e)).0) rows h,
  each_weaker (Unmoved q (λ r. m r || n r)) (Unmoved q n) (λ r k e. (or_parts (m r) (n r) (k e)).1) rows h,
)

unmarked : (q : Row → Bool) (x : ℕ) (rows : List Row) → Each (Unmoved q (is_marked x)) rows → Each (Unmarked q x) rows
unmarked q x rows h = each_weaker (Unmoved q (is_marked x)) (Unmarked q x) (λ r k e. parts r (k e)) rows h
  where
    parts : (r : Row) → is_marked x r ≡ false → (is_caller r.writer x ≡ false) × (is_caller r.taker x ≡ false) × (contains r.readers x ≡ false)
    parts r e =
        let one = or_parts (is_caller r.writer x || is_caller r.taker x) (contains r.readers x) e in
        let two = or_parts (is_caller r.writer x) (is_caller r.taker x) one.0 in
        (two.0, two.1, one.1)

-- ---- the end of a transaction, leases

alike_abort : (q : Row → Bool) → SeesNoMarks q → (st : State) (x : ℕ) → Each (Unmoved q (is_marked x)) st.rows → Alike q st (abort st x)
alike_abort q s st x h = record { classes = refl; rows = aborted_alike q s x st.rows (unmarked q x st.rows h) }

alike_commit : (q : Row → Bool) → SeesNoMarks q → (st : State) (x : ℕ) → Each (Unmoved q (is_marked x)) st.rows → Alike q st (commit st x)
alike_commit q s st x h =
    fold_keeps (Alike q st) (owe None) (λ b r k. record { classes = k.classes; rows = k.rows }) (published x st.rows) (record (forget st x) { rows = committed x st.rows })
    (record { classes = refl; rows = committed_alike q s x st.rows (unmarked q x st.rows h) })

alike_remove : (q : Row → Bool) → SeesNoMarks q → (st : State) (r : Rank) (n : ℕ) → Each (Unmoved q (λ row. row.number == n || is_marked n row)) st.rows → Alike q st (remove st r n)
alike_remove q s st rank.Entry n h = record {
  classes = refl;
  rows = kept_alike q (λ row. not (row.number == n)) st.rows (each_weaker (Unmoved q (λ row. row.number == n)) (λ row. q row ≡ true → not (row.number == n) ≡ true) (λ row k e. rw (k e) refl) st.rows (unmoved_both q (λ row. row.number == n) (is_marked n) st.rows h).0);
}
alike_remove q s st rank.Registration n h = record { classes = refl; rows = refl }
alike_remove q s st rank.Transaction n h = alike_abort q s st n (unmoved_both q (λ row. row.number == n) (is_marked n) st.rows h).1
alike_remove q s st rank.Blocked n h = record { classes = refl; rows = refl }
alike_remove q s st rank.MatchSet n h = record { classes = refl; rows = refl }

alike_extend : (q : Row → Bool) → SeesNoMarks q → (st : State) (end : ℕ) (r : Rank) (n : ℕ) → Each (Unmoved q (λ row. row.number == n)) st.rows → Alike q st (extend st end r n)
alike_extend q s st end rank.Entry n h = record { classes = refl; rows = updated_alike q (λ row. row.number == n) (λ (row : Row). record row { end = end }) (λ row. s row end row.writer row.taker row.readers) st.rows h }
alike_extend q s st end rank.Registration n h = record { classes = refl; rows = refl }
alike_extend q s st end rank.Transaction n h = record { classes = refl; rows = refl }
alike_extend q s st end rank.Blocked n h = alike_none q st
alike_extend q s st end rank.MatchSet n h = record { classes = refl; rows = refl }

alike_renew : (q : Row → Bool) → SeesNoMarks q → (st : State) (lease ms : ℤ) → Each (Unmoved q (λ row. row.number == named lease)) st.rows → Alike q st (renew st lease ms)
alike_renew q s st lease ms h = go (rank_of st (named lease))
  where
    go : (o : Option Rank) → Alike q st (option_map_or (λ r. extend st (st.time + ms_of ms) r (named lease)) o st)
    go None = alike_none q st
    go (Some r) = alike_extend q s st _ r (named lease) h

alike_cancel : (q : Row → Bool) → SeesNoMarks q → (st : State) (lease : ℤ) → Each (Unmoved q (λ row. row.number == named lease || is_marked (named lease) row)) st.rows → Alike q st (cancel st lease)
alike_cancel q s st lease h = go (rank_of st (named lease))
  where
    go : (o : Option Rank) → Alike q st (option_map_or (λ r. remove st r (named lease)) o st)
    go None = alike_none q st
    go (Some r) = alike_remove q s st r (named lease) h

-- ---- rows that are added

-- if the row's number is new, it doesn't pass the test
abbrev NoNew : (Row → Bool) → ℕ → Row → Type 0
NoNew q n r = n ≤ r.number → q r ≡ false

-- the rows that stand after the old ones have new numbers
pub record Added (a b : State) : Type 0 where
  pub classes : b.classes ≡ a.classes
  pub news : List Row
  pub rows : b.rows ≡ a.rows ++ news
  pub numbers : Each (λ (r : Row). a.next_number ≤ r.number) news

pub added_all : (w : WriteRequest) (raws : List Raw) (b : State) → Added b (fold (λ b raw. add_row b (new_row b w raw)) b raws)
added_all w [] b = record { classes = refl; news = []; rows = sym (append-nil b.rows); numbers = tt }
added_all w (raw ∷ raws) b =
    let row : Row = new_row b w raw in
    let rest = added_all w raws (add_row b row) in
    record {
      classes = rest.classes;
      news = row ∷ rest.news;
      rows = rest.rows ∙ append_assoc b.rows (row ∷ []) rest.news;
      numbers = (omega arith, each_weaker (λ (r : Row). b.next_number + 1 ≤ r.number) (λ (r : Row). b.next_number ≤ r.number) (λ r l. omega arith) rest.news rest.numbers);
    }

alike_added : (q : Row → Bool) (a b : State) → Added a b → Each (NoNew q a.next_number) b.rows → Alike q a b
alike_added q a b k h =
    let news : Each (NoNew q a.next_number) k.news = (each_parts (NoNew q a.next_number) a.rows k.news (subst (Each (NoNew q a.next_number)) k.rows h)).1 in
    let both = each_both (λ (r : Row). a.next_number ≤ r.number) (NoNew q a.next_number) k.news k.numbers news in
    let none : Each (λ r. q r ≡ false) k.news = each_weaker (λ (r : Row). (a.next_number ≤ r.number) × NoNew q a.next_number r) (λ r. q r ≡ false) (λ r p. p.1 p.0) k.news both in
    record { classes = k.classes; rows = ap (filter q) k.rows ∙ added_alike q a.rows k.news none }

alike_write : (q : Row → Bool) (st : State) (w : WriteRequest) → Each (NoNew q st.next_number) (write st w).rows → Alike q st (write st w)
alike_write q st w h =
    let j = joining st (caller_of w.txn) (place_of st w.space) in
    subst (λ k. Each (NoNew q st.next_number) (fold (λ b raw. add_row b (new_row b w raw)) k w.entries).rows → Alike q st (fold (λ b raw. add_row b (new_row b w raw)) k w.entries)) (sym j.is)
    (λ n. let k = alike_added q (record st { transactions = j.ts }) _ (added_all w w.entries (record st { transactions = j.ts })) n in record { classes = k.classes; rows = k.rows }) h

-- ---- requests

alike_seek : (q : Row → Bool) → SeesNoMarks q → (st : State) (s id : ℕ) (x : RowRequest) (ns : List ℕ) → Each (Unmoved q (λ row. contains ns row.number)) st.rows → Alike q st (give_or_block st s id x ns)
alike_seek q z st s id x ns h =
    let b = as_blocked st s id x in
    let j = joining st (caller_of x.txn) (place_of st x.space) in
    let k : State = record st { transactions = j.ts } in
    subst (λ k. Alike q st (cond (would_block st s id x) (block k b) (give k b ns))) (sym j.is)
    (choose (Alike q st) (would_block st s id x) (block k b) (give k b ns) (record { classes = refl; rows = refl }) (record { classes = refl; rows = given_alike q z k b ns h }))

alike_register : (q : Row → Bool) (st : State) (s : ℕ) (x : Notify) → Alike q st (register st s x)
alike_register q st s x =
    let j = joining st (caller_of x.txn) (place_of st x.space) in
    subst (λ (k : State). Alike q st (record k { registrations = (register st s x).registrations; next_number = st.next_number + 1 })) (sym j.is) (record { classes = refl; rows = refl })

alike_open_set : (q : Row → Bool) (st : State) (s : ℕ) (x : Contents) → Alike q st (open_set st s x)
alike_open_set q st s x =
    let j = joining st (caller_of x.txn) (place_of st x.space) in
    subst (λ (k : State). Alike q st (record k { sets = (open_set st s x).sets; next_number = st.next_number + 1 })) (sym j.is) (record { classes = refl; rows = refl })

alike_accepted : (q : Row → Bool) → SeesNoMarks q → (st : State) (s id : ℕ) (ns : List ℕ) (a : Ask) → ask_moves_any a ≡ false → Each (Unmoved q (λ row. contains ns row.number)) st.rows → Each (Unmoved q (ask_moves a)) st.rows
    → Each (NoNew q st.next_number) (accepted st s id ns a).rows → Alike q st (accepted st s id ns a)
alike_accepted q z st s id ns (ask.Declare d) e g h n = absurd (cc)
alike_accepted q z st s id ns (ask.Write w) e g h n = alike_write q st (one_entry w) n
alike_accepted q z st s id ns (ask.Read x) e g h n = alike_seek q z st s id (one_row form.Read x) ns g
alike_accepted q z st s id ns (ask.ReadIf x) e g h n = alike_seek q z st s id (one_row form.ReadIf x) ns g
alike_accepted q z st s id ns (ask.Take x) e g h n = alike_seek q z st s id (one_row form.Take x) ns g
alike_accepted q z st s id ns (ask.TakeIf x) e g h n = alike_seek q z st s id (one_row form.TakeIf x) ns g
alike_accepted q z st s id ns (ask.Notify x) e g h n = alike_register q st s x
alike_accepted q z st s id ns (ask.Renew lease ms) e g h n = alike_renew q z st lease ms h
alike_accepted q z st s id ns (ask.Cancel lease) e g h n = alike_cancel q z st lease h
alike_accepted q z st s id ns (ask.RenewAll leases) e g h n = absurd (cc)
alike_accepted q z st s id ns (ask.CancelAll leases) e g h n = absurd (cc)
alike_accepted q z st s id ns (ask.Txn lease) e g h n = record { classes = refl; rows = refl }
alike_accepted q z st s id ns (ask.Commit x) e g h n = record { classes = refl; rows = refl }
alike_accepted q z st s id ns (ask.Abort x) e g h n = alike_abort q z st (named x) h
alike_accepted q z st s id ns (ask.State x) e g h n = alike_none q st
alike_accepted q z st s id ns (ask.Reset space) e g h n = absurd (cc)
alike_accepted q z st s id ns ask.Spaces e g h n = alike_none q st
alike_accepted q z st s id ns ask.Bye e g h n = record { classes = refl; rows = refl }
alike_accepted q z st s id ns (ask.Hello v) e g h n = record { classes = refl; rows = refl }
alike_accepted q z st s id ns (ask.WriteAll w) e g h n = alike_write q st (all_entries w) n
alike_accepted q z st s id ns (ask.TakeMany x) e g h n = alike_seek q z st s id (many_rows x) ns g
alike_accepted q z st s id ns (ask.Contents x) e g h n = alike_open_set q st s x
alike_accepted q z st s id ns (ask.Next set most) e g h n = record { classes = refl; rows = refl }
alike_accepted q z st s id ns (ask.CloseSet set) e g h n = record { classes = refl; rows = refl }

alike_asked : (q : Row → Bool) → SeesNoMarks q → (st : State) (s id : ℕ) (ns : List ℕ) (a : Ask) (o : Option Refusal) → ask_moves_any a ≡ false → Each (Unmoved q (λ row. contains ns row.number || ask_moves a row)) st.rows
    → Each (NoNew q st.next_number) (after_ask st s id ns a o).rows → Alike q st (after_ask st s id ns a o)
alike_asked q z st s id ns a None e h n = let both = unmoved_both q (λ row. contains ns row.number) (ask_moves a) st.rows h in alike_accepted q z st s id ns a e both.0 both.1 n
alike_asked q z st s id ns a (Some why) e h n = alike_none q st

-- ---- each step

alike_granted : (q : Row → Bool) → SeesNoMarks q → (st : State) (n : ℕ) (ns : List ℕ) (o : Option Blocked) → Each (Unmoved q (λ row. contains ns row.number)) st.rows → Alike q st (after_grant st n ns o)
alike_granted q z st n ns None h = alike_none q st
alike_granted q z st n ns (Some b) h = record { classes = refl; rows = given_alike q z st b ns h }

-- a vote drops no mark where the transaction has none
alike_voted : (q : Row → Bool) → SeesNoMarks q → (st : State) (x : ℕ) (o : Option Joined) → Each (Unmoved q (is_marked x)) st.rows → Alike q st (option_map_or (cast st x) o st)
alike_voted q z st x None h = alike_none q st
alike_voted q z st x (Some j) h = record {
  classes = refl;
  rows = mapped_alike q (λ row. cond (is_not_changed (vote_of st x j) && row.space == j.space) (unread x row) row) (λ row. seen (is_not_changed (vote_of st x j) && row.space == j.space) row) st.rows
      (each_weaker (Unmarked q x) _ (λ row k e. same (is_not_changed (vote_of st x j) && row.space == j.space) row (k e).2) st.rows (unmarked q x st.rows h));
}
  where
    seen : (b : Bool) (row : Row) → q (cond b (unread x row) row) ≡ q row
    seen true row = z row row.end row.writer row.taker _
    seen false row = refl

    same : (b : Bool) (row : Row) → contains row.readers x ≡ false → cond b (unread x row) row ≡ row
    same true row e = unread_same x row e
    same false row e = refl

alike_change : (q : Row → Bool) → SeesNoMarks q → (st : State) (act : Step) → moves_any act ≡ false → Each (Unmoved q (moves act)) st.rows → Each (NoNew q st.next_number) (change st act).rows → Alike q st (change st act)
alike_change q z st (step.Open s) e h n = record { classes = refl; rows = refl }
alike_change q z st (step.Shut s) e h n = record { classes = refl; rows = refl }
alike_change q z st (step.Clock t) e h n = record { classes = refl; rows = refl }
alike_change q z st (step.Ask s a ns) e h n = alike_asked q z st s a.id ns a.ask (refusal st s a.id a.ask) e h n
alike_change q z st (step.Fault s id why) e h n = choose (Alike q st) (is_too_long why) (close st s) st (record { classes = refl; rows = refl }) (alike_none q st)
alike_change q z st (step.Grant m ns) e h n = alike_granted q z st m ns (blocked_of st m) h
alike_change q z st (step.Empty m) e h n = record { classes = refl; rows = refl }
alike_change q z st (step.Tell m) e h n = record { classes = refl; rows = refl }
alike_change q z st (step.Due item) e h n = alike_remove q z st item.rank item.number h
alike_change q z st (step.Vote x space) e h n = alike_voted q z st x (joined_at st x space) h
alike_change q z st (step.Decide x c) e h n = choose (Alike q st) c (commit st x) (abort st x) (alike_commit q z st x h) (alike_abort q z st x h)
alike_change q z st (step.HandOut s m) e h n = alike_none q st

pub waiting_stays : (st : State) (act : Step) (b : Blocked) → moves_any act ≡ false → must_wait st b ≡ true → Each (λ (row : Row). moves act row ≡ true → wants st b row ≡ false) st.rows
    → Each (λ (row : Row). st.next_number ≤ row.number → wants st b row ≡ false) (next st act).rows → must_wait (next st act) b ≡ true
unfolding next
waiting_stays st act b e w h n =
    let q = wanted st.classes b in
    let unmoved : Each (Unmoved q (moves act)) st.rows = each_weaker (λ (row : Row). moves act row ≡ true → q row ≡ false) (Unmoved q (moves act)) (λ row k p. false_from_ne_true (moves act row) (λ m. true≢false (sym p ∙ k m))) st.rows h in
    sym (waits_alike st (change st act) b (alike_change q (λ r end writer taker readers. refl) st act e unmoved n)) ∙ w

-- ---- what comes to wait

abbrev OldOrNew : State → Step → Blocked → Type 0
OldOrNew st act b = Has st.blocked b ⊎ ((st.next_number ≤ b.number) × (must_wait (next st act) b ≡ true))

had_to : (st : State) (s id : ℕ) (x : RowRequest) → would_block st s id x ≡ true → must_wait st (as_blocked st s id x) ≡ true
had_to st s id x e = (and_parts (nat_lt 0 (named x.timeout)) (must_wait st (as_blocked st s id x)) e).1

waits_sought : (st : State) (s id : ℕ) (x : RowRequest) (ns : List ℕ) → would_block st s id x ≡ true → must_wait (give_or_block st s id x ns) (as_blocked st s id x) ≡ true
waits_sought st s id x ns e =
    let b = as_blocked st s id x in
    let j = joining st (caller_of x.txn) (place_of st x.space) in
    let k : State = record st { transactions = j.ts } in
    subst (λ k. must_wait (cond (would_block st s id x) (block k b) (give k b ns)) b ≡ true) (sym j.is)
    (choose_by (λ k. must_wait k b ≡ true) (would_block st s id x) (block k b) (give k b ns) (λ d. had_to st s id x e) (λ d. absurd (true≢false (sym e ∙ d))))

refused_waits : (st : State) (s id : ℕ) (o : Option RowRequest) → IfSome o (λ x. would_block st s id x ≡ true → must_wait st (as_blocked st s id x) ≡ true)
refused_waits st s id None = tt
refused_waits st s id (Some x) = had_to st s id x

asked_waits : (st : State) (s id : ℕ) (ns : List ℕ) (a : Ask) (o : Option Refusal) → IfSome (rows_asked a) (λ x. would_block st s id x ≡ true → must_wait (after_ask st s id ns a o) (as_blocked st s id x) ≡ true)
asked_waits st s id ns a (Some why) = refused_waits st s id (rows_asked a)
asked_waits st s id ns (ask.Read x) None = waits_sought st s id (one_row form.Read x) ns
asked_waits st s id ns (ask.ReadIf x) None = waits_sought st s id (one_row form.ReadIf x) ns
asked_waits st s id ns (ask.Take x) None = waits_sought st s id (one_row form.Take x) ns
asked_waits st s id ns (ask.TakeIf x) None = waits_sought st s id (one_row form.TakeIf x) ns
asked_waits st s id ns (ask.TakeMany x) None = waits_sought st s id (many_rows x) ns
asked_waits st s id ns _ None = tt

asked_new : (st : State) (act : Step) → Asked (OldOrNew st act) st act
unfolding next
asked_new st (step.Ask s a ns) = new (rows_asked a.ask) (asked_waits st s a.id ns a.ask (refusal st s a.id a.ask))
  where
    new : (o : Option RowRequest) → IfSome o (λ x. would_block st s a.id x ≡ true → must_wait (after_ask st s a.id ns a.ask (refusal st s a.id a.ask)) (as_blocked st s a.id x) ≡ true)
        → IfSome o (λ x. would_block st s a.id x ≡ true → OldOrNew st (step.Ask s a ns) (as_blocked st s a.id x))
    new None h = tt
    new (Some x) h = λ e. inr (omega arith, h e)
asked_new st _ = tt

pub waiting_comes : (st : State) (act : Step) (b : Blocked) → Has (next st act).blocked b → Has st.blocked b ⊎ ((st.next_number ≤ b.number) × (must_wait (next st act) b ≡ true))
waiting_comes st act b h =
    let old : Each (OldOrNew st act) st.blocked = each_weaker (Has st.blocked) (OldOrNew st act) (λ x k. inl k) st.blocked (each_itself st.blocked) in
    each_has (OldOrNew st act) (next st act).blocked b (blocked_step (OldOrNew st act) st act (asked_new st act) old) h
