-- A row is told to a registration at most once.
use Rattle.std.proofs.Common.{◌≡◌, refl, sym, ap, ◌∙◌, subst, ℕ, ◌+◌, ◌<◌, ◌≤◌, List, [], ◌∷◌, ◌++◌, drop, take, fold, Bool, true, false, not, cond, ◌&&◌, ◌||◌, ◌⊎◌, inl, inr, ⊎_elim, Option, Some, None, ◌==◌, arith, eqb-true, eq-eqb, true≢false}
use Rattle.std.specs.Option.{option_map_or}
use Rattle.std.proofs.lemmas.Bool.{not-true}
use Rattle.jsp_model.specs.declared.state.State.{State}
use Rattle.jsp_model.specs.declared.state.Row.{Row}
use Rattle.jsp_model.specs.declared.state.Registration.{Registration}
use Rattle.jsp_model.specs.declared.step.Step.{Step}
use Rattle.jsp_model.specs.declared.step.Step.TheVariants as step
use Rattle.jsp_model.specs.Lookup.{empty, contains, is_caller, registration_of}
use Rattle.jsp_model.specs.Sight.{is_take}
use Rattle.jsp_types.specs.Matching.{matches}
use Rattle.jsp_model.specs.Refusals.{refusal}
use Rattle.jsp_model.specs.Requests.{one_entry, all_entries, WriteRequest, caller_of, place_of}
use Rattle.jsp_model.specs.declared.state.Outbox.{Outbox}
use Rattle.jsp_wire.specs.declared.ask.Ask.{Ask}
use Rattle.jsp_wire.specs.declared.ask.Ask.TheVariants as ask
use Rattle.jsp_reply.specs.declared.refusal.Refusal.{Refusal}
use Rattle.jsp_laws.proofs.Made.{and_both, joining, ask_writes, owing_in, committed_by, kind_of, step_changes}
use Rattle.jsp_laws.proofs.Rising.{Rising, IsRising, registration_no, rising_filter, rising_only, rising_step, rising_empty}
use Rattle.jsp_laws.proofs.Walk.{Legal, at_legal, carry, carry_after}
use Rattle.jsp_laws.proofs.Decision.{tri}
use Rattle.jsp_laws.proofs.Sets.{count_absent}
use Rattle.jsp_model.specs.Changes.{hears, owe, add_row, new_row, write, join, unread, forget, committed, published, commit}
use Rattle.jsp_model.specs.Steps.{is_legal, after_ask, next}
use Rattle.jsp_model.specs.Runs.{Moment, IsRun}
use Rattle.jsp_model.specs.Laws.{At, told}
use Rattle.jsp_laws.specs.Events.{tells, ToldOnce}
use Rattle.jsp_laws.proofs.Lists.{Each, Has, count, count_append, count_cons, each_weaker, each_kept, each_itself, each_both, each_has, each_filter, each_map, each_touched, each_update, each_append, each_flat, contains_pushed, fold_keeps, found_has}
use Rattle.jsp_laws.proofs.Change.{Kind, Change, touch_rows, touch_registrations, keep_rows, keep_registrations, put, owes, gives, blocks, registers, opens, begins, aborts, commits, Changes, none, then_}
use Rattle.jsp_laws.proofs.Sound.{IsSound, RowsBelow, below_pushed, row_number, hears_of, owed_to, after_giving, sound_empty}
use Rattle.jsp_laws.proofs.Living.{caller_is}

-- ---- what a registration has heard of

-- a row of this number is everyone's, or was written under this transaction
abbrev Public : Option ℕ → ℕ → Row → Type 0
Public t k r = r.number ≡ k → (r.writer ≡ None) ⊎ (r.writer ≡ t)

-- what was told to each registration, by its number, with what it is owed
abbrev listed : (ℕ → List ℕ) → Registration → List ℕ
listed h q = h q.number ++ q.owed

-- the row is listed once, and it is everyone's or was written under the registration's transaction
pub record Once (h : ℕ → List ℕ) (next : ℕ) (rows : List Row) (q : Registration) (k : ℕ) : Type 0 where
  pub below : k < next
  pub once : count k (listed h q) ≤ 1
  pub public : Each (Public q.transaction k) rows

abbrev Heard : (ℕ → List ℕ) → ℕ → List Row → Registration → Type 0
Heard h next rows q = (k : ℕ) → contains (listed h q) k ≡ true → Once h next rows q k

pub record AllHeard (h : ℕ → List ℕ) (st : State) : Type 0 where
  pub undrawn : (m : ℕ) → st.next_number ≤ m → h m ≡ []
  pub heard : Each (Heard h st.next_number st.rows) st.registrations

-- ---- rows

public_given : (t : Option ℕ) (k : ℕ) (b take : Bool) (x : Option ℕ) (r : Row) → Public t k r → Each (Public t k) (after_giving b take x r)
public_given t k true true None r p = tt
public_given t k true true (Some x) r p = (p, tt)
public_given t k true false None r p = (p, tt)
public_given t k true false (Some x) r p = (p, tt)
public_given t k false take x r p = (p, tt)

public_change : {c : Kind} {st after : State} (t : Option ℕ) (k : ℕ) → Change c st after → k < st.next_number → Each (Public t k) st.rows → Each (Public t k) after.rows
public_change {st = st} t k (touch_rows u f e z) l p = each_touched (Public t k) u f (λ r q i. rw (e.writer r) (q (sym (e.number r) ∙ i))) st.rows p
public_change {st = st} t k (keep_rows u) l p = each_filter (Public t k) u st.rows p
public_change {st = st} t k (put r e a b v w) l p = each_append (Public t k) st.rows (r ∷ []) p (λ i. absurd (omega arith), tt)
public_change {st = st} t k (gives b ns v a) l p = each_flat (Public t k) (Public t k) _ (λ r q. public_given t k (contains ns r.number) (is_take b.form) b.transaction r q) st.rows p
public_change {st = st} t k (aborts x e z) l p =
    each_map (Public t k) (Public t k) (unread x) (λ r q. q) _
    (each_touched (Public t k) (λ row. is_caller row.taker x) (λ (row : Row). record row { taker = None }) (λ r q. q) _ (each_filter (Public t k) _ st.rows p))
public_change {st = st} t k (commits x e) l p =
    each_map (Public t k) (Public t k) (unread x) (λ r q. q) _
    (each_touched (Public t k) (λ row. is_caller row.writer x) (λ (row : Row). record row { writer = None }) (λ r q i. inl refl) _ (each_filter (Public t k) _ st.rows p))
public_change t k _ l p = p

-- ---- a change that owes no row

-- a registration that lists no more than it did
shorter : (h : ℕ → List ℕ) (n m : ℕ) (rows after : List Row) (q p : Registration) → n ≤ m → p.number ≡ q.number → p.transaction ≡ q.transaction
    → ((k : ℕ) → contains p.owed k ≡ true → contains q.owed k ≡ true) → ((k : ℕ) → count k p.owed ≤ count k q.owed)
    → ((t : Option ℕ) (k : ℕ) → k < n → Each (Public t k) rows → Each (Public t k) after) → Heard h n rows q → Heard h m after p
shorter h n m rows after q p l e t sub tally public heard k c =
    let c' : contains (listed h q) k ≡ true = subst (λ z. contains (h z ++ q.owed) k ≡ true) e (still (h p.number) p.owed q.owed k (sub k) c) in
    let o : Once h n rows q k = heard k c' in
    let same : h p.number ≡ h q.number = ap h e in
    let a : count k (listed h p) ≡ count k (h p.number) + count k p.owed = count_append k (h p.number) p.owed in
    let b : count k (listed h q) ≡ count k (h q.number) + count k q.owed = count_append k (h q.number) q.owed in
    let d : count k (h p.number) ≡ count k (h q.number) = ap (λ xs. count k xs) same in
    let f : count k p.owed ≤ count k q.owed = tally k in
    let g : count k (listed h q) ≤ 1 = o.once in
    let below : k < n = o.below in
    record { below = omega arith; once = omega arith; public = rw t (public q.transaction k o.below o.public) }
  where
    still : (xs ys zs : List ℕ) (k : ℕ) → (contains ys k ≡ true → contains zs k ≡ true) → contains (xs ++ ys) k ≡ true → contains (xs ++ zs) k ≡ true
    still [] ys zs k s c = s c
    still (x ∷ xs) ys zs k s c = go (x == k) c (still xs ys zs k s)
      where
        go : (b : Bool) → (b || contains (xs ++ ys) k) ≡ true → (contains (xs ++ ys) k ≡ true → contains (xs ++ zs) k ≡ true) → (b || contains (xs ++ zs) k) ≡ true
        go true e ih = refl
        go false e ih = ih e

abbrev StayPublic : ℕ → List Row → List Row → Type 0
StayPublic n rows after = (t : Option ℕ) (k : ℕ) → k < n → Each (Public t k) rows → Each (Public t k) after

same_heard : (h : ℕ → List ℕ) (n m : ℕ) (rows after : List Row) (q : Registration) → n ≤ m → StayPublic n rows after → Heard h n rows q → Heard h m after q
same_heard h n m rows after q l public k = shorter h n m rows after q q l refl refl (λ k c. c) (λ k. omega arith) public k

heard_by : (h : ℕ → List ℕ) (st after : State) → AllHeard h st → st.next_number ≤ after.next_number
    → (Each (Heard h st.next_number st.rows) st.registrations → Each (Heard h after.next_number after.rows) after.registrations) → AllHeard h after
heard_by h st after k l f = record { undrawn = λ m g. k.undrawn m (omega arith); heard = f k.heard }

-- the registrations stay
all_stay : (h : ℕ → List ℕ) (st : State) (n : ℕ) (rows : List Row) → st.next_number ≤ n → StayPublic st.next_number st.rows rows → Each (Heard h st.next_number st.rows) st.registrations → Each (Heard h n rows) st.registrations
all_stay h st n rows l public hs = each_weaker (Heard h st.next_number st.rows) (Heard h n rows) (λ q. same_heard h st.next_number n st.rows rows q l public) st.registrations hs

heard_change : {c : Kind} {st after : State} (h : ℕ → List ℕ) → c.owing ≡ false → c.committed ≡ None → Change c st after → AllHeard h st → AllHeard h after
heard_change {c = c} {st = st} {after = after} h quiet un (touch_rows u f e z) k = heard_by h st after k (omega arith) (λ hs. all_stay h st st.next_number after.rows (omega arith) (λ t i l p. public_change {c = c} {st = st} t i (touch_rows u f e z) l p) hs)
heard_change {st = st} {after = after} h quiet un (keep_rows u) k = heard_by h st after k (omega arith) (λ hs. all_stay h st st.next_number after.rows (omega arith) (λ t i l p. each_filter (Public t i) u st.rows p) hs)
heard_change {st = st} {after = after} h quiet un (put r e a b v w) k = heard_by h st after k (omega arith) (λ hs. all_stay h st (st.next_number + 1) after.rows (omega arith) (λ t i l p. each_append (Public t i) st.rows (r ∷ []) p (λ j. absurd (omega arith), tt)) hs)
heard_change {c = c} {st = st} {after = after} h quiet un (gives b ns v a) k = heard_by h st after k (omega arith) (λ hs. all_stay h st st.next_number after.rows (omega arith) (λ t i l p. public_change {c = c} {st = st} t i (gives b ns v a) l p) hs)
heard_change {c = c} {st = st} {after = after} h quiet un (aborts x e z) k =
    heard_by h st after k (omega arith) (λ hs. each_filter (Heard h st.next_number after.rows) _ st.registrations (all_stay h st st.next_number after.rows (omega arith) (λ t i l p. public_change {c = c} {st = st} t i (aborts x e z) l p) hs))
heard_change {c = c} h quiet un (commits x e) k = let w : None ≡ Some x = sym un ∙ e in absurd (cc)
heard_change h quiet un (owes r e z) k = absurd (true≢false (sym z ∙ quiet))
heard_change {st = st} {after = after} h quiet un (touch_registrations u f e z) k =
    heard_by h st after k (omega arith) (λ hs. each_touched (Heard h st.next_number st.rows) u f (λ q. shorter h st.next_number st.next_number st.rows st.rows q (f q) (omega arith) (e.number q) (e.transaction q) (e.owed q) (e.tally q) (λ t i l p. p)) st.registrations hs)
heard_change {st = st} {after = after} h quiet un (keep_registrations u) k = heard_by h st after k (omega arith) (λ hs. each_filter (Heard h st.next_number st.rows) u st.registrations hs)
heard_change {st = st} {after = after} h quiet un (registers r e o v z) k =
    heard_by h st after k (omega arith) (λ hs. each_append (Heard h (st.next_number + 1) st.rows) st.registrations (r ∷ []) (all_stay h st (st.next_number + 1) st.rows (omega arith) (λ t i l p. p) hs) (new, tt))
  where
    new : Heard h (st.next_number + 1) st.rows r
    new i c =
        let none : listed h r ≡ [] = rw (o, e, k.undrawn st.next_number (omega arith)) refl in
        let w : contains [] i ≡ true = rw none at c in absurd (cc)
heard_change {st = st} {after = after} h quiet un (blocks b e v) k = heard_by h st after k (omega arith) (λ hs. all_stay h st (st.next_number + 1) st.rows (omega arith) (λ t i l p. p) hs)
heard_change {st = st} {after = after} h quiet un (opens m e v w q) k = heard_by h st after k (omega arith) (λ hs. all_stay h st (st.next_number + 1) st.rows (omega arith) (λ t i l p. p) hs)
heard_change {st = st} {after = after} h quiet un (begins b e v) k = heard_by h st after k (omega arith) (λ hs. all_stay h st (st.next_number + 1) st.rows (omega arith) (λ t i l p. p) hs)
heard_change {st = st} {after = after} h quiet un _ k = heard_by h st after k (omega arith) (λ hs. hs)

heard_changes : {c : Kind} {st after : State} (h : ℕ → List ℕ) → c.owing ≡ false → c.committed ≡ None → Changes c st after → AllHeard h st → AllHeard h after
heard_changes h quiet un none k = k
heard_changes h quiet un (then_ d ds) k = heard_changes h quiet un ds (heard_change h quiet un d k)

-- ---- a registration is owed a row

pushed_count : (xs : List ℕ) (m k : ℕ) → count k (xs ++ m ∷ []) ≡ count k xs + cond (m == k) 1 0
pushed_count xs m k =
    let a : count k (xs ++ m ∷ []) ≡ count k xs + count k (m ∷ []) = count_append k xs (m ∷ []) in
    let b : count k (m ∷ []) ≡ cond (m == k) 1 0 + 0 = count_cons k m [] in omega arith

listed_pushed : (h owed : List ℕ) (m k : ℕ) → (m == k) ≡ false → contains (h ++ (owed ++ m ∷ [])) k ≡ true → contains (h ++ owed) k ≡ true
listed_pushed [] owed m k d c = ⊎_elim (λ q. q) (λ q. absurd (true≢false (sym (eq-eqb m k q) ∙ d))) (contains_pushed owed m k c)
listed_pushed (x ∷ h) owed m k d c = go (x == k) c (listed_pushed h owed m k d)
  where
    go : (b : Bool) → (b || contains (h ++ (owed ++ m ∷ [])) k) ≡ true → (contains (h ++ (owed ++ m ∷ [])) k ≡ true → contains (h ++ owed) k ≡ true) → (b || contains (h ++ owed) k) ≡ true
    go true e ih = refl
    go false e ih = ih e

heard_told : (h : ℕ → List ℕ) (n m : ℕ) (rows after : List Row) (q : Registration) (r : Row) → n ≤ m → r.number < m → contains (listed h q) r.number ≡ false → StayPublic n rows after → Each (Public q.transaction r.number) after
    → Heard h n rows q → Heard h m after (owed_to r q)
heard_told h n m rows after q r l b fresh public mine heard k c = go (r.number == k) refl
  where
    total : count k (listed h (owed_to r q)) ≡ count k (listed h q) + cond (r.number == k) 1 0
    total =
        let x : count k (listed h (owed_to r q)) ≡ count k (h q.number) + count k (q.owed ++ r.number ∷ []) = count_append k (h q.number) (q.owed ++ r.number ∷ []) in
        let y : count k (listed h q) ≡ count k (h q.number) + count k q.owed = count_append k (h q.number) q.owed in
        let z : count k (q.owed ++ r.number ∷ []) ≡ count k q.owed + cond (r.number == k) 1 0 = pushed_count q.owed r.number k in omega arith

    go : (d : Bool) → (r.number == k) ≡ d → Once h m after (owed_to r q) k
    go true e =
        let w : r.number ≡ k = eqb-true r.number k e in
        let none : count k (listed h q) ≡ 0 = subst (λ z. count z (listed h q) ≡ 0) w (count_absent r.number (listed h q) fresh) in
        let one : count k (listed h (owed_to r q)) ≡ count k (listed h q) + 1 = total ∙ rw e refl in
        record { below = subst (λ z. z < m) w b; once = omega arith; public = subst (λ z. Each (Public q.transaction z) after) w mine }
    go false e =
        let o : Once h n rows q k = heard k (listed_pushed (h q.number) q.owed r.number k e c) in
        let same : count k (listed h (owed_to r q)) ≡ count k (listed h q) + 0 = total ∙ rw e refl in
        let once : count k (listed h q) ≤ 1 = o.once in
        let below : k < n = o.below in
        record { below = omega arith; once = omega arith; public = public q.transaction k o.below o.public }

-- ---- a row is written

hears_writer : (w : Option ℕ) (q : Registration) → hears w q ≡ true → (w ≡ None) ⊎ (w ≡ q.transaction)
hears_writer None q e = inl refl
hears_writer (Some x) q e = inr (sym (caller_is q.transaction x e))

heard_added : (h : ℕ → List ℕ) (b : State) (r : Row) → r.number ≡ b.next_number → RowsBelow b → AllHeard h b → AllHeard h (add_row b r)
heard_added h b r e below k = heard_by h b (add_row b r) k (omega arith) (λ hs. each_update (Heard h n b.rows) (Heard h (n + 1) (b.rows ++ r ∷ [])) (hears_of b r) (owed_to r)
    (λ q t p. heard_told h n (n + 1) b.rows (b.rows ++ r ∷ []) q r (omega arith) (omega arith) (fresh q p) old (mine q (and_both (hears r.writer q) (q.space == r.space) (and_both (hears r.writer q && q.space == r.space) (matches b.classes q.template r.entry) t).0).0) p)
    (λ q t p. same_heard h n (n + 1) b.rows (b.rows ++ r ∷ []) q (omega arith) old p) b.registrations hs)
  where
    n : ℕ
    n = b.next_number

    old : StayPublic n b.rows (b.rows ++ r ∷ [])
    old t k l p = each_append (Public t k) b.rows (r ∷ []) p (λ i. absurd (omega arith), tt)

    fresh : (q : Registration) → Heard h n b.rows q → contains (listed h q) r.number ≡ false
    fresh q p = go (contains (listed h q) r.number) refl
      where
        go : (d : Bool) → contains (listed h q) r.number ≡ d → d ≡ false
        go false c = refl
        go true c = let l : r.number < n = (p r.number c).below in absurd (omega arith)

    mine : (q : Registration) → hears r.writer q ≡ true → Each (Public q.transaction r.number) (b.rows ++ r ∷ [])
    mine q t = each_append (Public q.transaction r.number) b.rows (r ∷ []) (each_weaker (λ (s : Row). s.number < n) (Public q.transaction r.number) (λ s l i. absurd (omega arith)) b.rows below) (λ i. hears_writer r.writer q t, tt)

heard_written : (h : ℕ → List ℕ) (st : State) (w : WriteRequest) → RowsBelow st → AllHeard h st → AllHeard h (write st w)
heard_written h st w below k =
    let j = joining st (caller_of w.txn) (place_of st w.space) in
    (fold_keeps Good (λ b raw. add_row b (new_row b w raw))
    (λ b raw g. (heard_added h b (new_row b w raw) refl g.1 g.0, below_pushed row_number b.next_number b.rows (new_row b w raw) refl g.1)) w.entries (join st (caller_of w.txn) (place_of st w.space))
    (subst Good (sym j.is) (record { undrawn = k.undrawn; heard = k.heard }, below))).0
  where
    Good : State → Type 0
    Good b = AllHeard h b × RowsBelow b

-- ---- rows are published

abbrev Fresh : (ℕ → List ℕ) → List Row → Registration → Type 0
Fresh h ps q = Each (λ (p : Row). contains (listed h q) p.number ≡ false) ps

heard_owed : (h : ℕ → List ℕ) (ps : List Row) (s : State) → Rising row_number ps → Each (λ (p : Row). p.number < s.next_number) ps → Each (λ (p : Row). (t : Option ℕ) → Each (Public t p.number) s.rows) ps
    → Each (Fresh h ps) s.registrations → AllHeard h s → AllHeard h (fold (owe None) s ps)
heard_owed h [] s rise below public fresh k = k
heard_owed h (p ∷ ps) s (first, rise) (b, below) (mine, public) fresh k = heard_owed h ps (owe None s p) rise below public
    (each_update (Fresh h (p ∷ ps)) (Fresh h ps) (λ q. hears None q && q.space == p.space && matches s.classes q.template p.entry) (owed_to p) (λ q t f. later q f.1) (λ q t f. f.1) s.registrations fresh)
    (heard_by h s (owe None s p) k (omega arith) (λ hs. each_update (λ q. Heard h s.next_number s.rows q × Fresh h (p ∷ ps) q) (Heard h s.next_number s.rows) (λ q. hears None q && q.space == p.space && matches s.classes q.template p.entry) (owed_to p)
    (λ q t g. heard_told h s.next_number s.next_number s.rows s.rows q p (omega arith) b g.1.0 (λ t k l r. r) (mine q.transaction) g.0) (λ q t g. g.0) s.registrations
    (each_both (Heard h s.next_number s.rows) (Fresh h (p ∷ ps)) s.registrations hs fresh)))
  where
    later : (q : Registration) → Fresh h ps q → Fresh h ps (owed_to p q)
    later q f = each_weaker (λ (r : Row). (p.number < r.number) × (contains (listed h q) r.number ≡ false)) (λ (r : Row). contains (listed h (owed_to p q)) r.number ≡ false)
        (λ r g. go r g.0 g.1 (contains (listed h (owed_to p q)) r.number) refl) ps (each_both (λ (r : Row). p.number < r.number) (λ (r : Row). contains (listed h q) r.number ≡ false) ps first f)
      where
        apart : (r : Row) → p.number < r.number → (d : Bool) → (p.number == r.number) ≡ d → d ≡ false
        apart r l false e = refl
        apart r l true e = let w : p.number ≡ r.number = eqb-true p.number r.number e in absurd (omega arith)

        go : (r : Row) → p.number < r.number → contains (listed h q) r.number ≡ false → (d : Bool) → contains (listed h (owed_to p q)) r.number ≡ d → d ≡ false
        go r l f false e = refl
        go r l f true e = absurd (true≢false (sym (listed_pushed (h q.number) q.owed p.number r.number (apart r l (p.number == r.number) refl) e) ∙ f))

heard_committed : (h : ℕ → List ℕ) (st : State) (x : ℕ) → IsSound st → IsRising st → AllHeard h st → AllHeard h (commit st x)
heard_committed h st x sound rise k =
    heard_owed h (published x st.rows) begun (rising_filter row_number wrote st.rows rise.rows)
    (each_filter (λ (p : Row). p.number < st.next_number) wrote st.rows sound.rows_below)
    (each_kept (Has st.rows) (λ (p : Row). (t : Option ℕ) → Each (Public t p.number) begun.rows) wrote (λ p e has t. freed p (and_both (is_caller p.writer x) (not (is_caller p.taker x)) e).0 has t) st.rows (each_itself st.rows))
    (each_kept (Heard h st.next_number st.rows) (Fresh h (published x st.rows)) (λ q. not (is_caller q.transaction x)) (λ q e heard. unheard q (not-true (is_caller q.transaction x) e) heard) st.registrations k.heard)
    (record { undrawn = k.undrawn; heard = each_filter (Heard h st.next_number begun.rows) (λ q. not (is_caller q.transaction x)) st.registrations (all_stay h st st.next_number begun.rows (omega arith) (λ t i l p. public_change {c = kind_of st (step.Decide x true)} {st = st} t i (commits x refl) l p) k.heard) })
  where
    begun : State
    begun = record (forget st x) { rows = committed x st.rows }

    wrote : Row → Bool
    wrote p = is_caller p.writer x && not (is_caller p.taker x)

    -- each row of its number is everyone's now
    freed : (p : Row) → is_caller p.writer x ≡ true → Has st.rows p → (t : Option ℕ) → Each (Public t p.number) begun.rows
    freed p w has t =
        each_map (Public t p.number) (Public t p.number) (unread x) (λ r q. q) _
        (each_update (λ (r : Row). r.number ≡ p.number → r ≡ p) (Public t p.number) (λ row. is_caller row.writer x) (λ (row : Row). record row { writer = None }) (λ r e q i. inl refl)
        (λ r e q i. absurd (true≢false (sym (subst (λ (z : Row). is_caller z.writer x ≡ true) (sym (q i)) w) ∙ e))) _
        (each_filter (λ (r : Row). r.number ≡ p.number → r ≡ p) _ st.rows (rising_only row_number st.rows p rise.rows has)))

    -- a registration under another one hasn't heard of them
    unheard : (q : Registration) → is_caller q.transaction x ≡ false → Heard h st.next_number st.rows q → Fresh h (published x st.rows) q
    unheard q other heard = each_kept (Has st.rows) (λ (p : Row). contains (listed h q) p.number ≡ false) wrote (λ p e has. go p (and_both (is_caller p.writer x) (not (is_caller p.taker x)) e).0 has (contains (listed h q) p.number) refl) st.rows (each_itself st.rows)
      where
        go : (p : Row) → is_caller p.writer x ≡ true → Has st.rows p → (d : Bool) → contains (listed h q) p.number ≡ d → d ≡ false
        go p w has false e = refl
        go p w has true e =
            ⊎_elim (λ i. let v : false ≡ true = rw i at w in absurd (cc)) (λ i. absurd (true≢false (sym w ∙ ap (λ o. is_caller o x) i ∙ other)))
            (each_has (Public q.transaction p.number) st.rows p (heard p.number e).public has refl)

-- ---- a step

heard_as : (h : ℕ → List ℕ) (st : State) (boxes : List Outbox) → AllHeard h st → AllHeard h (record st { outboxes = boxes })
heard_as h st boxes k = record { undrawn = k.undrawn; heard = k.heard }

quiet_commits : (act : Step) → owing_in act ≡ false → committed_by act ≡ None
quiet_commits (step.Decide x true) e = absurd (cc)
quiet_commits (step.Decide x false) e = refl
quiet_commits _ e = refl

heard_asked : (h : ℕ → List ℕ) (st : State) (s id : ℕ) (ns : List ℕ) (a : Ask) (o : Option Refusal) → ask_writes a ≡ true → RowsBelow st → AllHeard h st → AllHeard h (after_ask st s id ns a o)
heard_asked h st s id ns a (Some r) e below k = k
heard_asked h st s id ns (ask.Write w) None e below k = heard_written h st (one_entry w) below k
heard_asked h st s id ns (ask.WriteAll w) None e below k = heard_written h st (all_entries w) below k
heard_asked h st s id ns _ None e below k = absurd (cc)

heard_loud : (h : ℕ → List ℕ) (st : State) (act : Step) → owing_in act ≡ true → IsSound st → IsRising st → AllHeard h st → AllHeard h (next st act)
unfolding next
heard_loud h st (step.Ask s a ns) e sound rise k = heard_as h _ _ (heard_asked h st s a.id ns a.ask (refusal st s a.id a.ask) e sound.rows_below k)
heard_loud h st (step.Decide x true) e sound rise k = heard_as h _ _ (heard_committed h st x sound rise k)
heard_loud h st (step.Decide x false) e sound rise k = absurd (cc)
heard_loud h st _ e sound rise k = absurd (cc)

heard_step : (h : ℕ → List ℕ) (st : State) (act : Step) → is_legal st act ≡ true → IsSound st → IsRising st → AllHeard h st → AllHeard h (next st act)
heard_step h st act l sound rise k = go (owing_in act) refl
  where
    go : (b : Bool) → owing_in act ≡ b → AllHeard h (next st act)
    go true e = heard_loud h st act e sound rise k
    go false e = heard_changes h e (quiet_commits act e) (step_changes st act l sound) k

-- ---- an event

-- what was told so far of one registration
abbrev so_far : ℕ → ℕ → ℕ → List ℕ
so_far n row m = cond (m == n) (row ∷ []) []

abbrev nothing : ℕ → List ℕ
nothing m = []

-- the registration that is told, and the row that it is owed first
pub record Tells (st : State) (n row : ℕ) : Type 0 where
  pub q : Registration
  pub has : Has st.registrations q
  pub number : q.number ≡ n
  pub rest : List ℕ
  pub owed : q.owed ≡ row ∷ rest

told_finds : (st : State) (act : Step) (n row : ℕ) → tells n (record { state = st; step = act }) ≡ true → contains (told (record { state = st; step = act })) row ≡ true → Tells st n row
told_finds st (step.Tell j) n row e c = go (registration_of st j) refl c
  where
    first : (q : Registration) → registration_of st j ≡ Some q → (owed : List ℕ) → q.owed ≡ owed → contains (take 1 owed) row ≡ true → Tells st n row
    first q k [] o c = absurd (cc)
    first q k (m ∷ rest) o c =
        let found : Has st.registrations q × ((q.number == j) ≡ true) = found_has (λ r. r.number == j) st.registrations q k in
        record { q = q; has = found.0; number = eqb-true q.number j found.1 ∙ eqb-true j n e; rest = rest; owed = o ∙ ap (λ z. z ∷ rest) (same (m == row) refl c) }
      where
        same : (b : Bool) → (m == row) ≡ b → (b || false) ≡ true → m ≡ row
        same true w i = eqb-true m row w
        same false w i = absurd (cc)

    go : (o : Option Registration) → registration_of st j ≡ o → contains (option_map_or (λ r. take 1 r.owed) o []) row ≡ true → Tells st n row
    go None k c = absurd (cc)
    go (Some q) k c = first q k q.owed refl c
told_finds st _ n row e c = absurd (cc)

-- what was owed first is told now
told_heard : (st : State) (act : Step) (n row : ℕ) → IsSound st → IsRising st → tells n (record { state = st; step = act }) ≡ true → Tells st n row → AllHeard nothing st → AllHeard (so_far n row) (next st act)
unfolding next
told_heard st (step.Tell j) n row sound rise e t k = record {
  undrawn = λ m g. none m g (m == n) refl;
  heard = each_update (λ (r : Registration). (r.number ≡ t.q.number → r ≡ t.q) × Heard nothing st.next_number st.rows r) (Heard (so_far n row) st.next_number st.rows) (λ r. r.number == j) (λ (r : Registration). record r { owed = drop 1 r.owed; sequence = r.sequence + 1 })
      (λ r w p. this r (eqb-true r.number j w ∙ eqb-true j n e) p.0 p.1) (λ r w p. others r w p.1) st.registrations
      (each_both (λ (r : Registration). r.number ≡ t.q.number → r ≡ t.q) (Heard nothing st.next_number st.rows) st.registrations (rising_only registration_no st.registrations t.q rise.registrations t.has) k.heard);
}
  where
    drawn : n < st.next_number
    drawn = subst (λ z. z < st.next_number) t.number (each_has (λ (r : Registration). r.number < st.next_number) st.registrations t.q sound.registrations_below t.has)

    none : (m : ℕ) → st.next_number ≤ m → (b : Bool) → (m == n) ≡ b → cond b (row ∷ []) [] ≡ []
    none m g false w = refl
    none m g true w = let i : m ≡ n = eqb-true m n w in let l : n < st.next_number = drawn in absurd (omega arith)

    this : (r : Registration) → r.number ≡ n → (r.number ≡ t.q.number → r ≡ t.q) → Heard nothing st.next_number st.rows r → Heard (so_far n row) st.next_number st.rows (record r { owed = drop 1 r.owed; sequence = r.sequence + 1 })
    this r i only heard i' c =
        let is : r ≡ t.q = only (i ∙ sym t.number) in
        let owed : r.owed ≡ row ∷ t.rest = ap (λ (z : Registration). z.owed) is ∙ t.owed in
        let here : (r.number == n) ≡ true = eq-eqb r.number n i in
        let whole : so_far n row r.number ++ drop 1 r.owed ≡ r.owed = rw (here, owed) refl in
        let o : Once nothing st.next_number st.rows r i' = heard i' (subst (λ xs. contains xs i' ≡ true) whole c) in
        record { below = o.below; once = subst (λ xs. count i' xs ≤ 1) (sym whole) o.once; public = o.public }

    others : (r : Registration) → (r.number == j) ≡ false → Heard nothing st.next_number st.rows r → Heard (so_far n row) st.next_number st.rows r
    others r w heard i c =
        let far : (r.number == n) ≡ false = subst (λ z. (r.number == z) ≡ false) (eqb-true j n e) w in
        let whole : so_far n row r.number ++ r.owed ≡ r.owed = rw far refl in
        let o : Once nothing st.next_number st.rows r i = heard i (subst (λ xs. contains xs i ≡ true) whole c) in
        record { below = o.below; once = subst (λ xs. count i xs ≤ 1) (sym whole) o.once; public = o.public }
told_heard st _ n row sound rise e t k = absurd (cc)

-- and isn't owed again
not_again : (st : State) (n row : ℕ) → Tells st n row → AllHeard (so_far n row) st → ⊥
not_again st n row t k =
    let here : (t.q.number == n) ≡ true = eq-eqb t.q.number n t.number in
    let whole : listed (so_far n row) t.q ≡ row ∷ row ∷ t.rest = rw (here, t.owed) refl in
    let self : (row == row) ≡ true = eq-eqb row row refl in
    let stands : contains (row ∷ row ∷ t.rest) row ≡ true = rw self refl in
    let o : Once (so_far n row) st.next_number st.rows t.q row = each_has (Heard (so_far n row) st.next_number st.rows) st.registrations t.q k.heard t.has row (subst (λ xs. contains xs row ≡ true) (sym whole) stands) in
    let once : count row (row ∷ row ∷ t.rest) ≤ 1 = subst (λ xs. count row xs ≤ 1) whole o.once in
    let a : count row (row ∷ row ∷ t.rest) ≡ cond (row == row) 1 0 + count row (row ∷ t.rest) = count_cons row row (row ∷ t.rest) in
    let b : count row (row ∷ t.rest) ≡ cond (row == row) 1 0 + count row t.rest = count_cons row row t.rest in
    let counts : cond {A = ℕ} (row == row) 1 0 ≡ 1 = rw self refl in
    absurd (omega arith)

-- ---- the law

abbrev RisingHeard : (ℕ → List ℕ) → State → Type 0
RisingHeard h st = IsRising st × AllHeard h st

heard_on : (h : ℕ → List ℕ) (m : Moment) → Legal m → RisingHeard h m.state → RisingHeard h (next m.state m.step) ⊎ ⊥
heard_on h m l k = inl (rising_step m.state m.step l.legal l.sound k.0, heard_step h m.state m.step l.legal l.sound k.0 k.1)

no_second : (names : List (List ℕ)) (steps : List Step) → IsRun (empty names) steps → (i j n row : ℕ) (first second : Moment) → i < j → At (empty names) steps i first → At (empty names) steps j second → tells n first ≡ true → tells n second ≡ true
    → contains (told first) row ≡ true → contains (told second) row ≡ true → ⊥
no_second names steps run i j n row first second l a b e f c d =
    let sound = sound_empty names in
    let lf : Legal first = at_legal (empty names) steps run sound i first a in
    let start : RisingHeard nothing (empty names) = (rising_empty names, record { undrawn = λ m g. refl; heard = tt }) in
    let now : RisingHeard nothing first.state = ⊎_elim (λ k. k) (λ q. absurd q.4) (carry (RisingHeard nothing) (λ w. ⊥) (heard_on nothing) (empty names) steps run sound start i first a) in
    let after : RisingHeard (so_far n row) (next first.state first.step)
    = (rising_step first.state first.step lf.legal lf.sound now.0, told_heard first.state first.step n row lf.sound now.0 e (told_finds first.state first.step n row e c) now.1) in
    ⊎_elim (λ k. not_again second.state n row (told_finds second.state second.step n row f d) k.1) (λ q. q.5)
    (carry_after (RisingHeard (so_far n row)) (λ w. ⊥) (heard_on (so_far n row)) (empty names) steps run sound i j first second l a b after)

pub told_once : (names : List (List ℕ)) (steps : List Step) → IsRun (empty names) steps → ToldOnce (empty names) steps
told_once names steps run i j n row first second a b e f c d =
    ⊎_elim (λ q. q) (λ q. ⊎_elim (λ l. absurd (no_second names steps run i j n row first second l a b e f c d)) (λ l. absurd (no_second names steps run j i n row second first l b a f e d c)) q) (tri i j)
