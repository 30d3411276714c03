-- A row that was read under a transaction isn't taken by others meanwhile.
use Rattle.std.proofs.Common.{◌≡◌, refl, sym, ap, ◌∙◌, subst, ℕ, ◌+◌, ◌<◌, List, [], ◌∷◌, ◌++◌, Bool, true, false, not, cond, ◌&&◌, ◌||◌, ◌⊎◌, inl, inr, ⊎_elim, Option, Some, None, ◌==◌, IsTrue, arith, eqb-true, eq-eqb, true≢false}
use Rattle.std.specs.List.{list_all}
use Rattle.std.specs.Option.{option_map_or}
use Rattle.std.proofs.lemmas.Bool.{not-true}
use Rattle.jsp_model.specs.declared.state.State.{State}
use Rattle.jsp_model.specs.declared.state.Row.{Row}
use Rattle.jsp_model.specs.declared.state.Joined.{Joined}
use Rattle.jsp_model.specs.declared.step.Step.{Step}
use Rattle.jsp_model.specs.declared.step.Step.TheVariants as step
use Rattle.jsp_model.specs.Lookup.{empty, update, contains, is_caller, joined_at}
use Rattle.jsp_model.specs.Sight.{available, is_take, wants, readable, takeable}
use Rattle.jsp_model.specs.Changes.{unread, abort, aborted, forget, committed, vote_of, is_not_changed}
use Rattle.jsp_model.specs.Steps.{next}
use Rattle.jsp_model.specs.Runs.{Moment, IsRun}
use Rattle.jsp_model.specs.Laws.{request_of, given, takes, viewer, ends}
use Rattle.jsp_laws.specs.Reads.{reads_row, votes_not_changed, ReadHolds}
use Rattle.jsp_laws.proofs.Lists.{Each, Has, each_weaker, each_filter, each_map, each_touched, each_append, each_flat, each_numbers, each_both, each_has, contains_other}
use Rattle.jsp_laws.proofs.Living.{lives, caller_is}
use Rattle.jsp_laws.proofs.Change.{Kind, SameRow, Reads, Change, touch_rows, keep_rows, put, gives, blocks, registers, opens, begins, aborts, commits, Changes, none, then_}
use Rattle.jsp_laws.proofs.Sound.{IsSound, MarksLive, after_giving, row_number, without, sound_empty}
use Rattle.jsp_laws.proofs.Made.{and_both, marks_dropped, released_in, kind_of, step_changes}
use Rattle.jsp_laws.proofs.Walk.{Legal, some_is, at_legal, carry_after}
use Rattle.jsp_laws.proofs.Held.{Dead, Held, HeldBy, dead_changes, available_row}
use Rattle.jsp_laws.proofs.Given.{Gives, gives_of}
use Rattle.jsp_laws.proofs.Taken.{below_changes, lives_below, viewer_is, held_step}
use Rattle.jsp_laws.proofs.Joins.{dead_this}
use Rattle.jsp_laws.proofs.Rising.{IsRising, rising_only, rising_at}
use Rattle.jsp_laws.proofs.Votes.{contains_has}

-- ---- a row that is read

-- a row of this number is in that space, and x reads it
abbrev ReadBy : ℕ → ℕ → ℕ → Row → Type 0
ReadBy n p x r = r.number ≡ n → (r.space ≡ p) × (contains r.readers x ≡ true)

pub record Kept (n p x : ℕ) (st : State) : Type 0 where
  pub below : n < st.next_number
  pub reader_below : x < st.next_number
  pub rows : Each (ReadBy n p x) st.rows

kept_more : {n p x : ℕ} {st st' : State} → Kept n p x st → st'.next_number ≡ st.next_number + 1 → Each (ReadBy n p x) st'.rows → Kept n p x st'
kept_more {n = n} {x = x} {st = st} k e rows = record {
  below = let w : n < st.next_number = k.below in omega arith;
  reader_below = let w : x < st.next_number = k.reader_below in omega arith;
  rows = rows;
}

still_read : (xs : List ℕ) (x y : ℕ) → contains xs x ≡ true → contains (xs ++ y ∷ []) x ≡ true
still_read [] x y e = absurd (cc)
still_read (z ∷ xs) x y e = go (z == x) e (still_read xs x y)
  where
    go : (b : Bool) → (b || contains xs x) ≡ true → (contains xs x ≡ true → contains (xs ++ y ∷ []) x ≡ true) → (b || contains (xs ++ y ∷ []) x) ≡ true
    go true q ih = refl
    go false q ih = ih q

or_true : (b : Bool) → (b || true) ≡ true
or_true true = refl
or_true false = refl

now_read : (xs : List ℕ) (x : ℕ) → contains (xs ++ x ∷ []) x ≡ true
now_read [] x = rw (eq-eqb x x refl) refl
now_read (z ∷ xs) x = rw (now_read xs x) (or_true (z == x))

read_given : (n p x : ℕ) (b take : Bool) (y : Option ℕ) (r : Row) → ReadBy n p x r → Each (ReadBy n p x) (after_giving b take y r)
read_given n p x true true None r k = tt
read_given n p x true true (Some y) r k = (k, tt)
read_given n p x true false None r k = (k, tt)
read_given n p x true false (Some y) r k = (λ q. ((k q).0, go (contains r.readers y) (k q).1), tt)
  where
    go : (d : Bool) → contains r.readers x ≡ true → contains (cond d r.readers (r.readers ++ y ∷ [])) x ≡ true
    go true e = e
    go false e = still_read r.readers x y e
read_given n p x false take y r k = (k, tt)

read_unread : (n p x y : ℕ) → (x == y) ≡ false → (r : Row) → ReadBy n p x r → ReadBy n p x (unread y r)
read_unread n p x y d r k q = ((k q).0, contains_other y r.readers x d (k q).1)

read_aborted : (n p x y : ℕ) (rs : List Row) → (x == y) ≡ false → Each (ReadBy n p x) rs → Each (ReadBy n p x) (aborted y rs)
read_aborted n p x y rs d k =
    each_map (ReadBy n p x) (ReadBy n p x) (unread y) (read_unread n p x y d) _
    (each_touched (ReadBy n p x) (λ row. is_caller row.taker y) (λ (row : Row). record row { taker = None }) (λ r p. p) _ (each_filter (ReadBy n p x) _ rs k))

read_committed : (n p x y : ℕ) (rs : List Row) → (x == y) ≡ false → Each (ReadBy n p x) rs → Each (ReadBy n p x) (committed y rs)
read_committed n p x y rs d k =
    each_map (ReadBy n p x) (ReadBy n p x) (unread y) (read_unread n p x y d) _
    (each_touched (ReadBy n p x) (λ row. is_caller row.writer y) (λ (row : Row). record row { writer = None }) (λ r p. p) _ (each_filter (ReadBy n p x) _ rs k))

-- x ended, or its marks in the space are dropped
abbrev Left : Kind → ℕ → ℕ → State → Type 0
Left c p x st = (c.released ≡ Some (x, p)) ⊎ Dead x st

read_touched : (c : Kind) (n p x : ℕ) (t : Row → Bool) (f : Row → Row) → SameRow f → Reads c t f → (rs : List Row) → Each (ReadBy n p x) rs → Each (ReadBy n p x) (update t f rs) ⊎ (c.released ≡ Some (x, p))
read_touched c n p x t f e z [] k = inl tt
read_touched c n p x t f e z (r ∷ rs) (k, ks) = ⊎_elim (λ here. ⊎_elim (λ rest. inl (here, rest)) (λ q. inr q) (read_touched c n p x t f e z rs ks)) (λ q. inr q) (go (t r) refl (r.number == n) refl)
  where
    go : (b : Bool) → t r ≡ b → (d : Bool) → (r.number == n) ≡ d → ReadBy n p x (cond b (f r) r) ⊎ (c.released ≡ Some (x, p))
    go false q d i = inl k
    go true q true i =
        let two : (r.space ≡ p) × (contains r.readers x ≡ true) = k (eqb-true r.number n i) in
        ⊎_elim (λ w. inl (λ j. (e.space r ∙ two.0, w))) (λ w. inr (subst (λ s. c.released ≡ Some (x, s)) two.0 w)) (z r x q two.1)
    go true q false i = inl (λ j. absurd (true≢false (sym (eq-eqb r.number n (sym (e.number r) ∙ j)) ∙ i)))

kept_change : {c : Kind} {st st' : State} (n p x : ℕ) → Change c st st' → Kept n p x st → Kept n p x st' ⊎ Left c p x st'
kept_change {c = c} {st = st} n p x (touch_rows t f e z) k =
    ⊎_elim (λ rows. inl (record { below = k.below; reader_below = k.reader_below; rows = rows })) (λ q. inr (inl q)) (read_touched c n p x t f e z st.rows k.rows)
kept_change {st = st} n p x (keep_rows t) k = inl (record { below = k.below; reader_below = k.reader_below; rows = each_filter (ReadBy n p x) t st.rows k.rows })
kept_change {st = st} n p x (put r e a b l w) k = inl (kept_more k refl (each_append (ReadBy n p x) st.rows (r ∷ []) k.rows (λ q. let w : n < st.next_number = k.below in absurd (omega arith), tt)))
kept_change {st = st} n p x (gives b ns l a) k = inl (record {
  below = k.below;
  reader_below = k.reader_below;
  rows = each_flat (ReadBy n p x) (ReadBy n p x) _ (λ r q. read_given n p x (contains ns r.number) (is_take b.form) b.transaction r q) st.rows k.rows;
})
kept_change {st = st} n p x (blocks b e l) k = inl (kept_more k refl k.rows)
kept_change {st = st} n p x (registers r e o l z) k = inl (kept_more k refl k.rows)
kept_change {st = st} n p x (opens m e l w v) k = inl (kept_more k refl k.rows)
kept_change {st = st} n p x (begins t e j) k = inl (kept_more k refl k.rows)
kept_change {c = c} {st = st} n p x (aborts y e z) k = go (x == y) refl
  where
    go : (b : Bool) → (x == y) ≡ b → Kept n p x (abort st y) ⊎ Left c p x (abort st y)
    go true d = inr (inr (record { below = k.reader_below; dead = subst (λ y. lives (without y st.transactions) x ≡ false) (eqb-true x y d) (dead_this x st.transactions) }))
    go false d = inl (record { below = k.below; reader_below = k.reader_below; rows = read_aborted n p x y st.rows d k.rows })
kept_change {c = c} {st = st} n p x (commits y e) k = go (x == y) refl
  where
    after : State
    after = record (forget st y) { rows = committed y st.rows }

    go : (b : Bool) → (x == y) ≡ b → Kept n p x after ⊎ Left c p x after
    go true d = inr (inr (record { below = k.reader_below; dead = subst (λ y. lives (without y st.transactions) x ≡ false) (eqb-true x y d) (dead_this x st.transactions) }))
    go false d = inl (record { below = k.below; reader_below = k.reader_below; rows = read_committed n p x y st.rows d k.rows })
kept_change n p x _ k = inl (record { below = k.below; reader_below = k.reader_below; rows = k.rows })

kept_changes : {c : Kind} {st st' : State} (n p x : ℕ) → Changes c st st' → Kept n p x st → Kept n p x st' ⊎ Left c p x st'
kept_changes n p x none k = inl k
kept_changes n p x (then_ d ds) k =
    ⊎_elim (λ k'. kept_changes n p x ds k') (λ q. inr (⊎_elim (λ r. inl r) (λ g. inr (dead_changes x ds g)) q)) (kept_change n p x d k)

-- ---- a step keeps it read, or x ends, or the space votes that x changed nothing

dropped_is : (st : State) (act : Step) (x p : ℕ) → released_in st act ≡ Some (x, p) → votes_not_changed x p (record { state = st; step = act }) ≡ true
dropped_is st (step.Vote y q) x p e = go (joined_at st y q) refl e
  where
    go : (o : Option Joined) → joined_at st y q ≡ o → marks_dropped st y q o ≡ Some (x, p) → votes_not_changed x p (record { state = st; step = step.Vote y q }) ≡ true
    go None k f = absurd (cc)
    go (Some j) k f = voted (is_not_changed (vote_of st y j)) refl f
      where
        voted : (b : Bool) → is_not_changed (vote_of st y j) ≡ b → cond {A = Option (ℕ × ℕ)} b (Some (y, q)) None ≡ Some (x, p) → votes_not_changed x p (record { state = st; step = step.Vote y q }) ≡ true
        voted false v f = absurd (cc)
        voted true v f =
            let both : (y, q) ≡ (x, p) = some_is (y, q) (x, p) f in
            let a : y ≡ x = ap (λ (z : ℕ × ℕ). z.0) both in
            let b : q ≡ p = ap (λ (z : ℕ × ℕ). z.1) both in
            let here : votes_not_changed y q (record { state = st; step = step.Vote y q }) ≡ true = rw (eq-eqb y y refl, eq-eqb q q refl, k, v) refl in
            subst (λ z. votes_not_changed x z (record { state = st; step = step.Vote y q }) ≡ true) b (subst (λ z. votes_not_changed z q (record { state = st; step = step.Vote y q }) ≡ true) a here)
dropped_is st _ x p e = absurd (cc)

abbrev Ended : ℕ → ℕ → Moment → Bool
Ended x p m = ends x m || votes_not_changed x p m

-- what no living transaction reads doesn't stand
unread_gone : (n p x : ℕ) (st : State) → IsSound st → Kept n p x st → lives st.transactions x ≡ false → Held n None st
unread_gone n p x st s k d = record {
  below = k.below;
  holder_below = λ y e. absurd (cc);
  rows = each_weaker (λ r. ReadBy n p x r × MarksLive st.transactions r) (HeldBy n None) (λ r q i. absurd (true≢false (sym (q.1.readers x (q.0 i).1) ∙ d))) st.rows (each_both (ReadBy n p x) (MarksLive st.transactions) st.rows k.rows s.rows_live);
}

gone_kept : (n p x : ℕ) (st : State) → x < st.next_number → Held n None st → Kept n p x st
gone_kept n p x st l h = record { below = h.below; reader_below = l; rows = each_weaker (HeldBy n None) (ReadBy n p x) (λ r q i. let (y, e, t) = q i in absurd (cc)) st.rows h.rows }

kept_step : (n p x : ℕ) (m : Moment) → Legal m → Kept n p x m.state → Kept n p x (next m.state m.step) ⊎ IsTrue (Ended x p m)
kept_step n p x m l k = go (lives m.state.transactions x) refl
  where
    made : Changes (kind_of m.state m.step) m.state (next m.state m.step)
    made = step_changes m.state m.step l.legal l.sound

    go : (b : Bool) → lives m.state.transactions x ≡ b → Kept n p x (next m.state m.step) ⊎ IsTrue (Ended x p m)
    go false d = ⊎_elim (λ h. inl (gone_kept n p x (next m.state m.step) (below_changes x made k.reader_below) h)) (λ q. let w : None ≡ Some q.0 = q.1 in absurd (cc)) (held_step n None m l (unread_gone n p x m.state l.sound k d))
    go true d =
        ⊎_elim (λ h. inl h)
        (λ q. inr (⊎_elim (λ r. rw (dropped_is m.state m.step x p r) (or_true (ends x m))) (λ g. let w : lives (next m.state m.step).transactions x ≡ false = g.dead in rw (d, w) refl) q))
        (kept_changes n p x made k)

-- ---- from the read to the take

begun : (n p x : ℕ) (b take : Bool) (y : Option ℕ) (r : Row) → take ≡ false → y ≡ Some x → (r.number ≡ n → (b ≡ true) × (r.space ≡ p)) → Each (ReadBy n p x) (after_giving b take y r)
begun n p x true false (Some y) r t e k = (λ q. ((k q).1, go (contains r.readers y) refl), tt)
  where
    go : (d : Bool) → contains r.readers y ≡ d → contains (cond d r.readers (r.readers ++ y ∷ [])) x ≡ true
    go d i = let w : y ≡ x = some_is y x e in subst (λ z. contains (cond d r.readers (r.readers ++ y ∷ [])) z ≡ true) w (has d i)
      where
        has : (d : Bool) → contains r.readers y ≡ d → contains (cond d r.readers (r.readers ++ y ∷ [])) y ≡ true
        has true i = i
        has false i = now_read r.readers y
begun n p x true false None r t e k = absurd (cc)
begun n p x true true y r t e k = absurd (cc)
begun n p x false take y r t e k = (λ q. let w : false ≡ true = (k q).0 in absurd (cc), tt)

read_begins : (m : Moment) (x : ℕ) (r : Row) → Legal m → IsRising m.state → Has m.state.rows r → reads_row m r.number ≡ true → viewer m ≡ Some x → Kept r.number r.space x (next m.state m.step)
read_begins m x r l rise h e v =
    let st = m.state in
    let n = r.number in
    let two : (contains (given m.step) n ≡ true) × (option_map_or (λ b. not (is_take b.form)) (request_of m) false ≡ true) = and_both (contains (given m.step) n) (option_map_or (λ b. not (is_take b.form)) (request_of m) false) e in
    let g : Gives st m.step = gives_of st m.step n l.sound l.legal two.0 in
    let b = g.b in
    let is : request_of m ≡ Some b = g.is in
    let take : is_take b.form ≡ false = not-true (is_take b.form) (rw is at two.1) in
    let who : b.transaction ≡ Some x = sym (viewer_is m b is) ∙ v in
    let made = step_changes st m.step l.legal l.sound in
    let only : Each (λ (s : Row). s.number ≡ n → s ≡ r) st.rows = rising_only row_number st.rows r rise.rows h in
    record {
      below = below_changes n made (each_has (λ (s : Row). s.number < st.next_number) st.rows r l.sound.rows_below h);
      reader_below = below_changes x made (lives_below st x l.sound (g.lives x who));
      rows = subst (λ rows. Each (ReadBy n r.space x) rows) (sym g.rows)
          (each_flat (λ (s : Row). s.number ≡ n → s ≡ r) (ReadBy n r.space x) _
          (λ s o. begun n r.space x (contains (given m.step) s.number) (is_take b.form) b.transaction s take who
          (λ q. (subst (λ z. contains (given m.step) z ≡ true) (sym q) two.0, ap (λ (z : Row). z.space) (o q)))) st.rows only);
    }

take_by_reader : (n p x : ℕ) (m : Moment) → Legal m → takes m n ≡ true → Kept n p x m.state → viewer m ≡ Some x
take_by_reader n p x m l e k =
    let st = m.state in
    let two : (contains (given m.step) n ≡ true) × (option_map_or (λ b. is_take b.form) (request_of m) false ≡ true) = and_both (contains (given m.step) n) (option_map_or (λ b. is_take b.form) (request_of m) false) e in
    let g : Gives st m.step = gives_of st m.step n l.sound l.legal two.0 in
    let b = g.b in
    let is : request_of m ≡ Some b = g.is in
    let take : is_take b.form ≡ true = rw is at two.1 in
    let (r, rk, q, a) = available_row st b (ReadBy n p x) n k.rows (each_numbers (contains (available st b)) (given m.step) n g.available two.0) in
    let free : takeable b.transaction r ≡ true = (let w : (wants st b r && takeable b.transaction r) ≡ true = rw take at a in (and_both (wants st b r) (takeable b.transaction r) w).1) in
    let all : list_all (is_caller b.transaction) r.readers ≡ true = (and_both (readable b.transaction r) (list_all (is_caller b.transaction) r.readers) free).1 in
    viewer_is m b is ∙ caller_is b.transaction x (each_numbers (is_caller b.transaction) r.readers x all (rk q).1)

pub read_holds : (names : List (List ℕ)) (steps : List Step) → IsRun (empty names) steps → ReadHolds (empty names) steps
read_holds names steps run i j x r first second l a b h e v t w =
    let sound = sound_empty names in
    let lf : Legal first = at_legal (empty names) steps run sound i first a in
    let ls : Legal second = at_legal (empty names) steps run sound j second b in
    let k : Kept r.number r.space x (next first.state first.step) = read_begins first x r lf (rising_at names steps run i first a) (contains_has first.state.rows r h) e v in
    ⊎_elim (λ (q : Kept r.number r.space x second.state). absurd (w (take_by_reader r.number r.space x second ls t q))) (λ q. q)
    (carry_after (Kept r.number r.space x) (λ m. IsTrue (Ended x r.space m)) (kept_step r.number r.space x) (empty names) steps run sound i j first second l a b k)
