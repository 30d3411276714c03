-- What waits for a session grows by what is said to it; what is handed out no longer waits.
use Rattle.std.proofs.Common.{◌≡◌, ℕ, ◌<◌, ◌≤◌, Bool, true, false, List, [], ◌∷◌, ◌++◌, length, drop, cond, eqb, refl, ap, sym, ◌∙◌, arith, append_assoc, length-append}
use Rattle.std.specs.Prelude.{filter, find, fold, ltb, ◌==◌, ◌&&◌, nat_lt}
use Rattle.std.specs.List.{list_any, list_all}
use Rattle.std.specs.Option.{option_map_or}
use Rattle.std.proofs.lemmas.List.{append-nil, drop_all}
use Rattle.std.proofs.lemmas.Bool.{and_parts, and_from, or_parts, ltb-true, ltb-false, lt-ltb, le-ltb, ne_eqb, eq-eqb, eqb-true, eqb-false}
use Rattle.jsp_reply.specs.declared.reply.Reply.{Reply}
use Rattle.jsp_model.specs.declared.state.State.{State}
use Rattle.jsp_model.specs.declared.state.Outbox.{Outbox}
use Rattle.jsp_model.specs.declared.step.Step.{Step}
use Rattle.jsp_model.specs.declared.step.Step.TheVariants as step
use Rattle.jsp_model.specs.Lookup.{update}
use Rattle.jsp_model.specs.Answers.{Saying, said}
use Rattle.jsp_model.specs.Steps.{next, after_hand_out}
use Rattle.jsp_model.specs.Outboxes.{post, hand_out, outbox_of}
use Rattle.jsp_model.specs.Runs.{state_after, said_to}
use Rattle.jsp_model.specs.Limits.{are_outboxes}
use Rattle.jsp_model.proofs.Joining.{to_session, to_session-append, said_to-step}

-- what lies in the session's box
abbrev pub answers_in : List Outbox → ℕ → List Reply
answers_in boxes s = option_map_or (λ b. b.answers) (find (λ b. b.session == s) boxes) []

abbrev pub are_above : ℕ → List Outbox → Bool
are_above low boxes = list_all (λ (c : Outbox). nat_lt low c.session) boxes

-- ---- lists of boxes

pub record Rising (b : Outbox) (boxes : List Outbox) : Type 0 where
  pub full : 0 < length b.answers
  pub above : are_above b.session boxes ≡ true
  pub rest : are_outboxes boxes ≡ true

pub rising_of : (b : Outbox) (boxes : List Outbox) → are_outboxes (b ∷ boxes) ≡ true → Rising b boxes
rising_of b boxes h =
    let outer = and_parts (nat_lt 0 (length b.answers) && are_above b.session boxes) (are_outboxes boxes) h in
    let inner = and_parts (nat_lt 0 (length b.answers)) (are_above b.session boxes) outer.0 in
    record { full = ltb-true 0 (length b.answers) inner.0; above = inner.1; rest = outer.1 }

to_rising : (b : Outbox) (boxes : List Outbox) → Rising b boxes → are_outboxes (b ∷ boxes) ≡ true
to_rising b boxes h =
    and_from (nat_lt 0 (length b.answers) && are_above b.session boxes) (are_outboxes boxes)
    (and_from (nat_lt 0 (length b.answers)) (are_above b.session boxes) (lt-ltb 0 (length b.answers) h.full) h.above)
    h.rest

pub above_all : (low high : ℕ) (boxes : List Outbox) → low ≤ high → are_above high boxes ≡ true → are_above low boxes ≡ true
above_all low high [] le h = refl
above_all low high (c ∷ boxes) le h =
    let parts = and_parts (nat_lt high c.session) (are_above high boxes) h in
    let lt : low < c.session = omega (arith, ltb-true high c.session parts.0) in
    and_from (nat_lt low c.session) (are_above low boxes) (lt-ltb low c.session lt) (above_all low high boxes le parts.1)

-- a session below all boxes has none
pub answers_below : (low s : ℕ) (boxes : List Outbox) → s ≤ low → are_above low boxes ≡ true → answers_in boxes s ≡ []
answers_below low s [] le h = refl
answers_below low s (c ∷ boxes) le h =
    let parts = and_parts (nat_lt low c.session) (are_above low boxes) h in
    let lt = ltb-true low c.session parts.0 in
    let other : eqb c.session s ≡ false = ne_eqb c.session s (λ e. omega (arith, lt)) in
    rw other (answers_below low s boxes le parts.1)

-- ---- an answer is posted

abbrev fresh : Saying → Outbox
fresh a = record { session = a.0; answers = a.1 ∷ [] }

abbrev grown : Outbox → Saying → Outbox
grown b a = record b { answers = b.answers ++ a.1 ∷ [] }

abbrev posted : Bool → Bool → Outbox → List Outbox → Saying → List Outbox
posted same before b boxes a = cond same (grown b a ∷ boxes) (cond before (fresh a ∷ b ∷ boxes) (b ∷ post boxes a))

above_posted : (low : ℕ) (b : Outbox) (boxes : List Outbox) (a : Saying) (same before : Bool) → low < a.0 → are_above low (b ∷ boxes) ≡ true → are_above low (post boxes a) ≡ true
    → are_above low (posted same before b boxes a) ≡ true
above_posted low b boxes a true before lt h rest = h
above_posted low b boxes a false true lt h rest = and_from (nat_lt low a.0) (are_above low (b ∷ boxes)) (lt-ltb low a.0 lt) h
above_posted low b boxes a false false lt h rest =
    let parts = and_parts (nat_lt low b.session) (are_above low boxes) h in
    and_from (nat_lt low b.session) (are_above low (post boxes a)) parts.0 rest

above_post : (low : ℕ) (boxes : List Outbox) (a : Saying) → low < a.0 → are_above low boxes ≡ true → are_above low (post boxes a) ≡ true
above_post low [] a lt h = and_from (nat_lt low a.0) true (lt-ltb low a.0 lt) refl
above_post low (b ∷ boxes) a lt h =
    let parts = and_parts (nat_lt low b.session) (are_above low boxes) h in
    above_posted low b boxes a (b.session == a.0) (nat_lt a.0 b.session) lt h (above_post low boxes a lt parts.1)

rising_posted : (b : Outbox) (boxes : List Outbox) (a : Saying) (same before : Bool) → eqb b.session a.0 ≡ same → ltb a.0 b.session ≡ before → Rising b boxes → are_outboxes (post boxes a) ≡ true
    → are_outboxes (posted same before b boxes a) ≡ true
rising_posted b boxes a true before same lt h rest = to_rising (grown b a) boxes (record { full = omega (arith, length-append b.answers (a.1 ∷ []), h.full); above = h.above; rest = h.rest })
rising_posted b boxes a false true same lt h rest =
    let below : a.0 < b.session = ltb-true a.0 b.session lt in
    to_rising (fresh a) (b ∷ boxes) (record {
      full = omega arith;
      above = and_from (nat_lt a.0 b.session) (are_above a.0 boxes) lt (above_all a.0 b.session boxes (omega arith) h.above);
      rest = to_rising b boxes h;
    })
rising_posted b boxes a false false same lt h rest =
    let le = ltb-false a.0 b.session lt in
    let ne = eqb-false b.session a.0 same in
    let above : b.session < a.0 = omega (arith, le, ne) in
    to_rising b (post boxes a) (record { full = h.full; above = above_post b.session boxes a above h.above; rest = rest })

-- boxes stay in order and none is empty
pub rising_post : (boxes : List Outbox) (a : Saying) → are_outboxes boxes ≡ true → are_outboxes (post boxes a) ≡ true
rising_post [] a h = to_rising (fresh a) [] (record { full = omega arith; above = refl; rest = refl })
rising_post (b ∷ boxes) a h =
    let parts = rising_of b boxes h in
    rising_posted b boxes a (b.session == a.0) (nat_lt a.0 b.session) refl refl parts (rising_post boxes a parts.rest)

abbrev one_to : ℕ → Saying → List Reply
one_to s a = to_session s (a ∷ [])

one_mine : (s : ℕ) (a : Saying) → eqb a.0 s ≡ true → one_to s a ≡ a.1 ∷ []
one_mine s a is = rw is refl

one_other : (s : ℕ) (a : Saying) → eqb a.0 s ≡ false → one_to s a ≡ []
one_other s a is = rw is refl

-- the first box is the session's, or another
answers_first : (s : ℕ) (b : Outbox) (boxes : List Outbox) → eqb b.session s ≡ true → answers_in (b ∷ boxes) s ≡ b.answers
answers_first s b boxes is = rw is refl

answers_later : (s : ℕ) (b : Outbox) (boxes : List Outbox) → eqb b.session s ≡ false → answers_in (b ∷ boxes) s ≡ answers_in boxes s
answers_later s b boxes is = rw is refl

nothing_more : (s : ℕ) (a : Saying) (xs : List Reply) → eqb a.0 s ≡ false → xs ≡ xs ++ one_to s a
nothing_more s a xs is = sym (ap (λ w. xs ++ w) (one_other s a is) ∙ append-nil xs)

adds_same : (s : ℕ) (b : Outbox) (boxes : List Outbox) (a : Saying) (mine : Bool) → eqb b.session s ≡ mine → b.session ≡ a.0
    → answers_in (grown b a ∷ boxes) s ≡ answers_in (b ∷ boxes) s ++ one_to s a
adds_same s b boxes a true is same =
    answers_first s (grown b a) boxes is
    ∙ ap (λ w. b.answers ++ w) (sym (one_mine s a (ap (λ k. eqb k s) (sym same) ∙ is)))
    ∙ ap (λ w. w ++ one_to s a) (sym (answers_first s b boxes is))
adds_same s b boxes a false is same =
    answers_later s (grown b a) boxes is
    ∙ nothing_more s a (answers_in boxes s) (ap (λ k. eqb k s) (sym same) ∙ is)
    ∙ ap (λ w. w ++ one_to s a) (sym (answers_later s b boxes is))

adds_before : (s : ℕ) (boxes : List Outbox) (a : Saying) (mine : Bool) → eqb a.0 s ≡ mine → are_above a.0 boxes ≡ true
    → answers_in (fresh a ∷ boxes) s ≡ answers_in boxes s ++ one_to s a
adds_before s boxes a true is above =
    let none = answers_below a.0 s boxes (omega (arith, eqb-true a.0 s is)) above in
    answers_first s (fresh a) boxes is ∙ sym (ap (λ w. w ++ one_to s a) none ∙ one_mine s a is)
adds_before s boxes a false is above = answers_later s (fresh a) boxes is ∙ nothing_more s a (answers_in boxes s) is

adds_later : (s : ℕ) (b : Outbox) (boxes : List Outbox) (a : Saying) (mine : Bool) → eqb b.session s ≡ mine → b.session < a.0
    → answers_in (post boxes a) s ≡ answers_in boxes s ++ one_to s a
    → answers_in (b ∷ post boxes a) s ≡ answers_in (b ∷ boxes) s ++ one_to s a
adds_later s b boxes a true is lt rest =
    let same = eqb-true b.session s is in
    answers_first s b (post boxes a) is
    ∙ nothing_more s a b.answers (ne_eqb a.0 s (λ e. omega (arith, lt, same)))
    ∙ ap (λ w. w ++ one_to s a) (sym (answers_first s b boxes is))
adds_later s b boxes a false is lt rest =
    answers_later s b (post boxes a) is ∙ rest ∙ ap (λ w. w ++ one_to s a) (sym (answers_later s b boxes is))

adds_posted : (s : ℕ) (b : Outbox) (boxes : List Outbox) (a : Saying) (same before : Bool) → eqb b.session a.0 ≡ same → ltb a.0 b.session ≡ before → Rising b boxes
    → answers_in (post boxes a) s ≡ answers_in boxes s ++ one_to s a
    → answers_in (posted same before b boxes a) s ≡ answers_in (b ∷ boxes) s ++ one_to s a
adds_posted s b boxes a true before same lt h rest = adds_same s b boxes a (eqb b.session s) refl (eqb-true b.session a.0 same)
adds_posted s b boxes a false true same lt h rest =
    let below : a.0 < b.session = ltb-true a.0 b.session lt in
    adds_before s (b ∷ boxes) a (eqb a.0 s) refl (and_from (nat_lt a.0 b.session) (are_above a.0 boxes) lt (above_all a.0 b.session boxes (omega arith) h.above))
adds_posted s b boxes a false false same lt h rest =
    let le = ltb-false a.0 b.session lt in
    let ne = eqb-false b.session a.0 same in
    adds_later s b boxes a (eqb b.session s) refl (omega (arith, le, ne)) rest

-- the answer goes to the end of its session's box
pub post_adds : (s : ℕ) (boxes : List Outbox) (a : Saying) → are_outboxes boxes ≡ true → answers_in (post boxes a) s ≡ answers_in boxes s ++ one_to s a
post_adds s [] a h = adds_before s [] a (eqb a.0 s) refl refl
post_adds s (b ∷ boxes) a h =
    let parts = rising_of b boxes h in
    adds_posted s b boxes a (b.session == a.0) (nat_lt a.0 b.session) refl refl parts (post_adds s boxes a parts.rest)

-- ---- all that a step says is posted

pub rising_posts : (boxes : List Outbox) (sayings : List Saying) → are_outboxes boxes ≡ true → are_outboxes (fold post boxes sayings) ≡ true
rising_posts boxes [] h = h
rising_posts boxes (a ∷ sayings) h = rising_posts (post boxes a) sayings (rising_post boxes a h)

pub posts_add : (s : ℕ) (boxes : List Outbox) (sayings : List Saying) → are_outboxes boxes ≡ true → answers_in (fold post boxes sayings) s ≡ answers_in boxes s ++ to_session s sayings
posts_add s boxes [] h = sym (append-nil (answers_in boxes s))
posts_add s boxes (a ∷ sayings) h =
    posts_add s (post boxes a) sayings (rising_post boxes a h)
    ∙ ap (λ w. w ++ to_session s sayings) (post_adds s boxes a h)
    ∙ append_assoc (answers_in boxes s) (one_to s a) (to_session s sayings)
    ∙ ap (λ w. answers_in boxes s ++ w) (sym (to_session-append s (a ∷ []) sayings))

-- ---- steps

abbrev pub is_hand_out : Step → Bool
is_hand_out (step.HandOut s n) = true
is_hand_out _ = false

pub handed_other : (x : Step) (boxes : List Outbox) → is_hand_out x ≡ false → after_hand_out x boxes ≡ boxes
handed_other (step.Open s) boxes h = refl
handed_other (step.Shut s) boxes h = refl
handed_other (step.Clock t) boxes h = refl
handed_other (step.Ask s asked ns) boxes h = refl
handed_other (step.Fault s id r) boxes h = refl
handed_other (step.Grant n ns) boxes h = refl
handed_other (step.Empty n) boxes h = refl
handed_other (step.Tell n) boxes h = refl
handed_other (step.Due item) boxes h = refl
handed_other (step.Vote x space) boxes h = refl
handed_other (step.Decide x commits) boxes h = refl
handed_other (step.HandOut s n) boxes h = cc (h)

-- a step that hands nothing out posts what it says
pub outboxes_step : (st : State) (x : Step) → is_hand_out x ≡ false → (next st x).outboxes ≡ fold post st.outboxes (said st x)
unfolding next
outboxes_step st x h = handed_other x (fold post st.outboxes (said st x)) h

-- Where nothing is handed out, what waits is what waited and what was said.
pub outboxes_run : (st : State) (xs : List Step) → are_outboxes st.outboxes ≡ true → list_any is_hand_out xs ≡ false
    → (are_outboxes (state_after st xs).outboxes ≡ true) × ((s : ℕ) → outbox_of (state_after st xs) s ≡ outbox_of st s ++ said_to s st xs)
outboxes_run st [] h none = (h, λ s. sym (append-nil (outbox_of st s)))
outboxes_run st (x ∷ xs) h none =
    let parts = or_parts (is_hand_out x) (list_any is_hand_out xs) none in
    let boxes : (next st x).outboxes ≡ fold post st.outboxes (said st x) = outboxes_step st x parts.0 in
    let rising : are_outboxes (next st x).outboxes ≡ true = ap are_outboxes boxes ∙ rising_posts st.outboxes (said st x) h in
    let rest = outboxes_run (next st x) xs rising parts.1 in (
      rest.0,
      λ s. (
          let now : outbox_of (next st x) s ≡ outbox_of st s ++ to_session s (said st x) = ap (λ w. answers_in w s) boxes ∙ posts_add s st.outboxes (said st x) h in
          rest.1 s ∙ ap (λ w. w ++ said_to s (next st x) xs) now
          ∙ append_assoc (outbox_of st s) (to_session s (said st x)) (said_to s (next st x) xs)
          ∙ ap (λ w. outbox_of st s ++ w) (sym (said_to-step s st x xs))),
    )

-- ---- handing out

abbrev cut : ℕ → ℕ → List Outbox → List Outbox
cut s n boxes = update (λ b. b.session == s) (λ (b : Outbox). record b { answers = drop n b.answers }) boxes

abbrev is_full : Outbox → Bool
is_full b = nat_lt 0 (length b.answers)

uncut : (s n : ℕ) (boxes : List Outbox) → are_above s boxes ≡ true → are_outboxes boxes ≡ true → filter is_full (cut s n boxes) ≡ boxes
uncut s n [] above h = refl
uncut s n (c ∷ boxes) above h =
    let parts = and_parts (nat_lt s c.session) (are_above s boxes) above in
    let lt = ltb-true s c.session parts.0 in
    let rising = rising_of c boxes h in
    let other : eqb c.session s ≡ false = ne_eqb c.session s (λ e. omega (arith, lt)) in
    let full : ltb 0 (length c.answers) ≡ true = lt-ltb 0 (length c.answers) rising.full in
    rw other (rw full (ap (λ w. c ∷ w) (uncut s n boxes parts.1 rising.rest)))

-- all answers of the first box are handed out: the box goes, and the others stay
pub hand_out_first : (n : ℕ) (b : Outbox) (boxes : List Outbox) → n ≡ length b.answers → are_outboxes (b ∷ boxes) ≡ true → hand_out b.session n (b ∷ boxes) ≡ boxes
hand_out_first n b boxes all h =
    let rising = rising_of b boxes h in
    let own : eqb b.session b.session ≡ true = eq-eqb b.session b.session refl in
    let none : drop n b.answers ≡ [] = drop_all n b.answers (omega (arith, all)) in
    let empty : ltb 0 (length (drop n b.answers)) ≡ false = le-ltb 0 (length (drop n b.answers)) (omega (arith, ap length none)) in
    rw own (rw empty (uncut b.session n boxes rising.above rising.rest))

-- to hand out changes the outboxes alone, and says nothing
pub hand_out_step : (st : State) (s n : ℕ) → next st (step.HandOut s n) ≡ record st { outboxes = hand_out s n st.outboxes }
unfolding next said
hand_out_step st s n = refl

pub hand_out_silent : (st : State) (s n : ℕ) → said st (step.HandOut s n) ≡ []
unfolding said
hand_out_silent st s n = refl
