-- The part of an act, and the parts of all acts.
use Rattle.std.proofs.Common.{◌≡◌, ℕ, ◌+◌, ◌<◌, ◌≤◌, Bool, true, false, List, [], ◌∷◌, ◌++◌, eqb, None, refl, ap, sym, ◌∙◌, subst, arith, append_assoc}
use Rattle.std.specs.Prelude.{map, flat_map, filter, ◌==◌, nat_lt, nat_eq, MatchBool}
use Rattle.std.specs.List.{list_any, list_all, AllByRecursion}
use Rattle.std.specs.HashMap.{HashMap}
use Rattle.std.specs.Map.{lookup}
use Rattle.std.proofs.lemmas.Grind.{flat_map-append}
use Rattle.std.proofs.lemmas.List.{append-nil}
use Rattle.std.proofs.lemmas.List.Elements.{filter-append}
use Rattle.std.proofs.lemmas.List.Folds.{list_all-map}
use Rattle.std.proofs.lemmas.Bool.{and_parts, and_from, or_parts, eqb-true, ne_eqb, eq-eqb, ltb-true}
use Rattle.jsp_reply.specs.declared.reply.Reply.{Reply}
use Rattle.jsp_model.specs.declared.state.State.{State}
use Rattle.jsp_model.specs.declared.state.Outbox.{Outbox}
use Rattle.jsp_model.specs.declared.step.Step.{Step}
use Rattle.jsp_model.specs.Lookup.{contains, empty, is_open}
use Rattle.jsp_model.specs.Due.{due}
use Rattle.jsp_model.specs.Quiet.{are_quiet}
use Rattle.jsp_model.specs.Steps.{is_rising}
use Rattle.jsp_model.specs.Outboxes.{outbox_of}
use Rattle.jsp_model.specs.Runs.{is_run, IsRun, state_after, said_to}
use Rattle.jsp_model.specs.House.{own_of, touched}
use Rattle.jsp_model.specs.Limits.{are_outboxes}
use Rattle.jsp_model.proofs.Joining.{IsRun-append, Makes-then, said_to-append}
use Rattle.jsp_model.proofs.Outboxes.{answers_in, are_above, rising_of, outboxes_run}
use Rattle.jsp_model.proofs.Sessions.{IsPast, rises_run}
use Rattle.jsp_model.proofs.Ends.{due_at_first, due_outboxes}
use Rattle.jsp_drive.specs.declared.acts.Act.{Act}
use Rattle.jsp_drive.specs.declared.acts.Act.TheVariants as act
use Rattle.jsp_drive.specs.declared.acts.Sent.{Sent}
use Rattle.jsp_drive.specs.Heard.{framed}
use Rattle.jsp_drive.specs.Line.{Unheard}
use Rattle.jsp_drive.specs.Lines.{Pending, nothing, AreLines, pending, held_by}
use Rattle.jsp_drive.specs.Tie.{is_hand_out, asked_in, HearsPiece, Asks, QuietsFirst, frame_for, Part, Tied, bytes_to}
use Rattle.jsp_drive.specs.Calls.{MakesAct, frames_sent, Sends}
use Rattle.jsp_quiet.specs.Steady.{IsSteady}
use Rattle.jsp_quiet.proofs.Steady.{steady_empty, steady_run}
use Rattle.jsp_drive.proofs.Asking.{asks_keep, asked_in-append, asked_in_kept, hand_own}
use Rattle.jsp_drive.proofs.Quieting.{touched-append, quiet_outboxes, are_quiet_outboxes}
use Rattle.jsp_drive.proofs.Silence.{said_past, none_at_first, above_none}

-- ---- what is sent at an act

abbrev sessions : List Outbox → List ℕ
sessions boxes = map (λ (b : Outbox). b.session) boxes

pub sessions_rise : (boxes : List Outbox) → are_outboxes boxes ≡ true → is_rising (sessions boxes) ≡ true
sessions_rise [] h = refl
sessions_rise (b ∷ boxes) h =
    let rising = rising_of b boxes h in
    and_from (list_all (nat_lt b.session) (sessions boxes)) (is_rising (sessions boxes))
    (list_all-map (nat_lt b.session) (λ (c : Outbox). c.session) boxes ∙ rising.above)
    (sessions_rise boxes rising.rest)

pub none_waits : (s : ℕ) (boxes : List Outbox) → contains (sessions boxes) s ≡ false → answers_in boxes s ≡ []
none_waits s [] h = refl
none_waits s (b ∷ boxes) h =
    let parts = or_parts (b.session == s) (contains (sessions boxes) s) h in
    rw parts.0 (none_waits s boxes parts.1)

-- what is said to each session lies in its box
abbrev LieIn : (ℕ → List Reply) → List Outbox → Type 0
LieIn told boxes = AllByRecursion (λ (b : Outbox). told b.session ≡ b.answers) boxes

lie_in_above : (told : ℕ → List Reply) (low : ℕ) (boxes : List Outbox) → are_above low boxes ≡ true → are_outboxes boxes ≡ true
    → ((s : ℕ) → low < s → told s ≡ answers_in boxes s) → LieIn told boxes
lie_in_above told low [] above h is = tt
lie_in_above told low (b ∷ boxes) above h is =
    let rising = rising_of b boxes h in
    let lt : low < b.session = ltb-true low b.session (and_parts (nat_lt low b.session) (are_above low boxes) above).0 in (
      is b.session lt ∙ rw (eq-eqb b.session b.session refl) refl,
      lie_in_above told b.session boxes rising.above rising.rest (λ s more. is s (omega (arith, lt)) ∙ rw (ne_eqb b.session s (λ e. omega arith)) refl),
    )

lie_in : (told : ℕ → List Reply) (boxes : List Outbox) → are_outboxes boxes ≡ true → ((s : ℕ) → told s ≡ answers_in boxes s) → LieIn told boxes
lie_in told [] h is = tt
lie_in told (b ∷ boxes) h is =
    let rising = rising_of b boxes h in (
      is b.session ∙ rw (eq-eqb b.session b.session refl) refl,
      lie_in_above told b.session boxes rising.above rising.rest (λ s more. is s ∙ rw (ne_eqb b.session s (λ e. omega arith)) refl),
    )

frames_by_session : (n : ℕ) (told : ℕ → List Reply) (boxes : List Outbox) → LieIn told boxes
    → flat_map (frames_sent n) boxes ≡ flat_map (λ s. map (frame_for n s) (told s)) (sessions boxes)
frames_by_session n told [] h = refl
frames_by_session n told (b ∷ boxes) h = rw h.0 (ap (λ w. frames_sent n b ++ w) (frames_by_session n told boxes h.1))

-- ---- the part of an act

-- between two acts nothing lies in an outbox and nothing is due; the state is steady, and no session has the number 0
pub record Between (st : State) : Type 0 where
  pub empty : st.outboxes ≡ []
  pub nothing_due : due st ≡ None
  pub steady : IsSteady st
  pub past : IsPast 0 st

pub between_at_first : (names : List (List ℕ)) → Between (empty names)
between_at_first names = record { empty = refl; nothing_due = due_at_first names; steady = steady_empty names; past = none_at_first names }

-- outboxes don't matter to what an act asks for
piece_sent : (b : Bool) (s : ℕ) (bytes : List ℕ) (asked : List Step) (new : State) (before after : ℕ → Pending) (Others : Type 0)
    → MatchBool b (HearsPiece s bytes asked new before after) Others → MatchBool b (HearsPiece s bytes asked (record new { outboxes = [] }) before after) Others
piece_sent true s bytes asked new before after Others h = record { hears = h.hears; others = h.others }
piece_sent false s bytes asked new before after Others h = h

asks_sent : (a : Act) (old : State) (asked : List Step) (new : State) (before after : ℕ → Pending) → Asks a old asked new before after → Asks a old asked (record new { outboxes = [] }) before after
asks_sent (act.Open s) old asked new before after h = h
asks_sent (act.Piece s bytes) old asked new before after h = piece_sent (is_open old s) s bytes.items asked new before after _ h
asks_sent (act.Shut s) old asked new before after h = h
asks_sent (act.Clock t) old asked new before after h = h
asks_sent act.Settle old asked new before after h = h

-- nor to what is quiet
quiets_sent : (a : Act) (old new : State) → QuietsFirst a old new → QuietsFirst a old (record new { outboxes = [] })
quiets_sent (act.Open s) old new h = tt
quiets_sent (act.Piece s bytes) old new h = tt
quiets_sent (act.Shut s) old new h = tt
quiets_sent (act.Clock t) old new h = tt
quiets_sent act.Settle old new h = λ none p first. quiet_outboxes new [] p ∙ h none p first

abbrev Lines : Type 0 → Type 0
Lines S = HashMap ℕ Unheard S

-- before what is said is handed out
pub record Said (st mid : State) (steps : List Step) : Type 0 where
  pub rising : are_outboxes mid.outboxes ≡ true
  pub from_one : are_above 0 mid.outboxes ≡ true
  pub waits : (s : ℕ) → outbox_of mid s ≡ said_to s st steps

module _ {S : Type 0} where
  pub said_by : (a : Act) (st mid : State) (log log' : List Step) (lines lines' : Lines S) (p : MakesAct a st mid log log' lines lines') → Between st → Said st mid p.steps
  said_by a st mid log log' lines lines' p b =
      let kept = asks_keep a st (own_of p.steps) mid (pending lines) (pending lines') p.asks in
      let keeps : list_any is_hand_out p.steps ≡ false = sym (hand_own p.steps) ∙ kept in
      let run = outboxes_run st p.steps (ap are_outboxes b.empty) keeps in
      let rising : are_outboxes mid.outboxes ≡ true = ap (λ (w : State). are_outboxes w.outboxes) (sym p.makes.view) ∙ run.0 in
      let waits = λ (s : ℕ). ap (λ (w : State). outbox_of w s) (sym p.makes.view) ∙ run.1 s ∙ ap (λ w. answers_in w s ++ said_to s st p.steps) b.empty in
      record {
        rising = rising;
        from_one = above_none mid.outboxes rising (waits 0 ∙ said_past 0 st p.steps p.makes.run b.past);
        waits = waits;
      }

  pub record Acted (n : ℕ) (act : Act) (st now : State) (log log' : List Step) (lines lines' : Lines S) (sent sent' : List Sent) : Type 0 where
    pub part : List Step
    pub frames : List Sent
    pub log_is : log' ≡ log ++ part
    pub sent_is : sent' ≡ sent ++ frames
    pub view : state_after st part ≡ now
    pub it : Part n act st (pending lines) (pending lines') part frames
    pub between : Between now
    pub are_lines : AreLines lines'

  pub acted : (n : ℕ) (a : Act) (st mid now : State) (log log' log'' : List Step) (lines lines' : Lines S) (sent sent' : List Sent)
      → Between st → MakesAct a st mid log log' lines lines' → Sends n mid now log' log'' sent sent'
      → Acted n a st now log log'' lines lines' sent sent'
  acted n a st mid now log log' log'' lines lines' sent sent' b p q =
      let part = p.steps ++ q.steps in
      let makes = Makes-then st mid now log log' log'' p.steps q.steps p.makes q.makes in
      let said = said_by a st mid log log' lines lines' p b in
      let kept = asks_keep a st (own_of p.steps) mid (pending lines) (pending lines') p.asks in
      let asked : asked_in part ≡ own_of p.steps = asked_in-append p.steps q.steps ∙ ap (λ w. asked_in p.steps ++ w) q.nothing_asked ∙ append-nil (asked_in p.steps) ∙ asked_in_kept p.steps kept in
      let says = λ (s : ℕ). said_to-append s st p.steps q.steps ∙ ap (λ (w : State). said_to s st p.steps ++ said_to s w q.steps) p.makes.view ∙ ap (λ w. said_to s st p.steps ++ w) (q.silent s) ∙ append-nil (said_to s st p.steps) in
      let told = λ (s : ℕ). says s ∙ sym (said.waits s) in
      let empty : now.outboxes ≡ [] = ap (λ (w : State). w.outboxes) q.new_is in
      let none_due : due now ≡ None = ap due q.new_is ∙ due_outboxes mid [] ∙ p.nothing_due b.nothing_due in
      let touched_all : touched st part ≡ touched st p.steps =
      touched-append st p.steps q.steps ∙ ap (λ (w : State). touched st p.steps ++ touched w q.steps) p.makes.view ∙ ap (λ w. touched st p.steps ++ w) q.untouched ∙ append-nil (touched st p.steps) in
      let quiet : are_quiet now (touched st p.steps) ≡ true =
      ap (λ (w : State). are_quiet w (touched st p.steps)) q.new_is ∙ are_quiet_outboxes mid [] (touched st p.steps) ∙ p.quiet b.steady in
      record {
        part = part;
        frames = flat_map (frames_sent n) mid.outboxes;
        log_is = makes.log;
        sent_is = q.sent_is;
        view = makes.view;
        it = record {
          run = makes.run;
          asks = rw (asked, makes.view, q.new_is) (asks_sent a st (own_of p.steps) mid (pending lines) (pending lines') p.asks);
          nothing_due = ap due makes.view ∙ none_due;
          quiet = rw (makes.view, touched_all) quiet;
          settled = rw (makes.view, q.new_is) (quiets_sent a st mid p.settled);
          handed_out = ap (λ (w : State). w.outboxes) makes.view ∙ empty;
          outgoing = record {
            to = sessions mid.outboxes;
            order = sessions_rise mid.outboxes said.rising;
            frames = frames_by_session n (λ s. said_to s st part) mid.outboxes (lie_in (λ s. said_to s st part) mid.outboxes said.rising told);
            others = λ s out. told s ∙ none_waits s mid.outboxes out;
          };
        };
        between = record {
          empty = empty;
          nothing_due = none_due;
          steady = subst IsSteady makes.view (steady_run st part makes.run b.steady);
          past = subst (λ (w : State). IsPast 0 w) makes.view ((rises_run st part makes.run).past 0 b.past);
        };
        are_lines = p.are_lines;
      }

  -- ---- the parts of all acts

  -- the parts so far, and those of the acts that are left
  pub record Driving (start now : State) (lines : Lines S) (n : ℕ) (acts left : List Act) (steps : List Step) (sent : List Sent) : Type 0 where
    pub between : Between now
    pub are_lines : AreLines lines
    pub tied : (more : List Step) (later : List Sent) → Tied now (pending lines) n left more later → Tied start (λ s. nothing) 0 acts (steps ++ more) (sent ++ later)

  -- before the first act, with no line
  pub driving_start : (st : State) (lines : Lines S) (acts : List Act) → Between st → lines.entries ≡ [] → Driving st st lines 0 acts acts [] []
  driving_start st lines acts b none = record {
    between = b;
    are_lines = λ s. rw none tt;
    tied = λ more later rest. (
        let same : pending lines ≡ (λ s. nothing) = ap (λ (es : List (ℕ × Unheard)). (λ (s : ℕ). held_by (lookup (nat_eq s) es))) none in
        subst (λ (f : ℕ → Pending). Tied st f 0 acts more later) same rest);
  }

  pub driving_more : (start st now : State) (lines lines' : Lines S) (n : ℕ) (a : Act) (acts left : List Act) (log log' : List Step) (sent sent' : List Sent)
      → Driving start st lines n acts (a ∷ left) log sent → Acted n a st now log log' lines lines' sent sent'
      → Driving start now lines' (n + 1) acts left log' sent'
  driving_more start st now lines lines' n a acts left log log' sent sent' d it =
      record {
        between = it.between;
        are_lines = it.are_lines;
        tied = λ more later rest. (
            let one : Tied st (pending lines) n (a ∷ left) (it.part ++ more) (it.frames ++ later) =
            record { part = it.part; more = more; now = it.frames; later = later; after = pending lines'; steps_are = refl; sent_is = refl; it = it.it; rest = rw it.view rest } in
            rw (it.log_is, it.sent_is) (rw (append_assoc log it.part more, append_assoc sent it.frames later) (d.tied (it.part ++ more) (it.frames ++ later) one)));
      }

  pub driving_end : (start now : State) (lines : Lines S) (n : ℕ) (acts left : List Act) (log : List Step) (sent : List Sent)
      → Driving start now lines n acts left log sent → left ≡ [] → Tied start (λ s. nothing) 0 acts log sent
  driving_end start now lines n acts left log sent d none =
      let rest : Tied now (pending lines) n left [] [] = rw none (refl, refl) in
      let all = d.tied [] [] rest in
      rw (append-nil log, append-nil sent) at all

-- ---- what follows of the whole run

-- the steps are one run
pub tied_run : (st : State) (before : ℕ → Pending) (n : ℕ) (acts : List Act) (steps : List Step) (sent : List Sent) → Tied st before n acts steps sent → IsRun st steps
tied_run st before n [] steps sent h = ap (λ w. is_run st w) h.0
tied_run st before n (a ∷ acts) steps sent h =
    ap (λ w. is_run st w) h.steps_are
    ∙ IsRun-append st h.part h.more h.it.run (tied_run (state_after st h.part) h.after (n + 1) acts h.more h.later h.rest)

bytes_to-append : (s : ℕ) (xs ys : List Sent) → bytes_to s (xs ++ ys) ≡ bytes_to s xs ++ bytes_to s ys
bytes_to-append s xs ys = ap (flat_map (λ x. x.frame)) (filter-append (λ x. x.session == s) xs ys) ∙ flat_map-append (λ x. x.frame) (filter (λ x. x.session == s) xs) (filter (λ x. x.session == s) ys)

mine : (n s : ℕ) (xs : List Reply) → bytes_to s (map (frame_for n s) xs) ≡ flat_map framed xs
mine n s [] = refl
mine n s (x ∷ xs) = rw (eq-eqb s s refl) (ap (λ w. framed x ++ w) (mine n s xs))

other : (n s t : ℕ) (xs : List Reply) → eqb t s ≡ false → bytes_to s (map (frame_for n t) xs) ≡ []
other n s t [] apart = refl
other n s t (x ∷ xs) apart = rw apart (other n s t xs apart)

abbrev frames_to : ℕ → (ℕ → List Reply) → List ℕ → List Sent
frames_to n told to = flat_map (λ t. map (frame_for n t) (told t)) to

below : (n s low : ℕ) (told : ℕ → List Reply) (to : List ℕ) → list_all (nat_lt low) to ≡ true → s ≤ low → bytes_to s (frames_to n told to) ≡ []
below n s low told [] above le = refl
below n s low told (t ∷ to) above le =
    let parts = and_parts (nat_lt low t) (list_all (nat_lt low) to) above in
    let lt = ltb-true low t parts.0 in
    let apart : eqb t s ≡ false = ne_eqb t s (λ e. omega (arith, lt)) in
    bytes_to-append s (map (frame_for n t) (told t)) (frames_to n told to) ∙ rw (other n s t (told t) apart) (below n s low told to parts.1 le)

each_bytes_at : (n s t : ℕ) (told : ℕ → List Reply) (to : List ℕ) (b : Bool) → eqb t s ≡ b → list_all (nat_lt t) to ≡ true → (contains (t ∷ to) s ≡ false → told s ≡ [])
    → ((contains to s ≡ false → told s ≡ []) → bytes_to s (frames_to n told to) ≡ flat_map framed (told s))
    → bytes_to s (frames_to n told (t ∷ to)) ≡ flat_map framed (told s)
each_bytes_at n s t told to true is above out rest =
    let same : t ≡ s = eqb-true t s is in
    bytes_to-append s (map (frame_for n t) (told t)) (frames_to n told to)
    ∙ ap (λ w. bytes_to s (map (frame_for n t) (told t)) ++ w) (below n s t told to above (omega (arith, same)))
    ∙ append-nil (bytes_to s (map (frame_for n t) (told t)))
    ∙ ap (λ k. bytes_to s (map (frame_for n k) (told k))) same
    ∙ mine n s (told s)
each_bytes_at n s t told to false is above out rest =
    bytes_to-append s (map (frame_for n t) (told t)) (frames_to n told to)
    ∙ rw (other n s t (told t) is) (rest (λ gone. out (rw is gone)))

each_bytes : (n s : ℕ) (told : ℕ → List Reply) (to : List ℕ) → is_rising to ≡ true → (contains to s ≡ false → told s ≡ []) → bytes_to s (frames_to n told to) ≡ flat_map framed (told s)
each_bytes n s told [] h out = ap (flat_map framed) (sym (out refl))
each_bytes n s told (t ∷ to) h out =
    let parts = and_parts (list_all (nat_lt t) to) (is_rising to) h in
    each_bytes_at n s t told to (eqb t s) refl parts.0 out (λ o. each_bytes n s told to parts.1 o)

-- The bytes that are sent to a session are the frames of what the run says to it.
pub tied_bytes : (s : ℕ) (st : State) (before : ℕ → Pending) (n : ℕ) (acts : List Act) (steps : List Step) (sent : List Sent) → Tied st before n acts steps sent
    → bytes_to s sent ≡ flat_map framed (said_to s st steps)
tied_bytes s st before n [] steps sent h = ap (bytes_to s) h.1 ∙ ap (λ w. flat_map framed (said_to s st w)) (sym h.0)
tied_bytes s st before n (a ∷ acts) steps sent h =
    let out = h.it.outgoing in
    ap (bytes_to s) h.sent_is ∙ bytes_to-append s h.now h.later
    ∙ ap (λ w. w ++ bytes_to s h.later) (ap (bytes_to s) out.frames ∙ each_bytes n s (λ t. said_to t st h.part) out.to out.order (out.others s))
    ∙ ap (λ w. flat_map framed (said_to s st h.part) ++ w) (tied_bytes s (state_after st h.part) h.after (n + 1) acts h.more h.later h.rest)
    ∙ sym (flat_map-append framed (said_to s st h.part) (said_to s (state_after st h.part) h.more))
    ∙ ap (flat_map framed) (sym (said_to-append s st h.part h.more))
    ∙ ap (λ w. flat_map framed (said_to s st w)) (sym h.steps_are)
