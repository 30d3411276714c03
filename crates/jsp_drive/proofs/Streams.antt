-- A session asks by its whole stream, in whatever pieces it came.
use Rattle.std.proofs.Common.{◌≡◌, ℕ, ◌+◌, ◌≤◌, Bool, true, false, List, [], ◌∷◌, ◌++◌, None, Vec, Global, eqb, refl, ap, sym, ◌∙◌, subst, arith, append_assoc, inl, inr}
use Rattle.std.specs.Prelude.{filter, MatchBool, ◌⊎◌, if◌then◌else◌, option_to_list}
use Rattle.std.specs.List.{list_all}
use Rattle.std.proofs.lemmas.List.{append-nil}
use Rattle.std.proofs.lemmas.List.Elements.{filter-append}
use Rattle.std.proofs.lemmas.Bool.{and_parts, eq-eqb, eqb-true}
use Rattle.jsp_wire.specs.declared.ask.Version.{Version}
use Rattle.jsp_frame.specs.Stream.{IsUnfinished, IsTooLong}
use Rattle.jsp_wire.specs.Reading.{Reading, request, bad_json, bad_request, reading}
use Rattle.jsp_reply.specs.declared.refusal.Refusal.TheVariants.{TooLong}
use Rattle.jsp_model.specs.declared.state.State.{State}
use Rattle.jsp_model.specs.declared.step.Step.{Step}
use Rattle.jsp_model.specs.declared.step.Step.TheVariants as step
use Rattle.jsp_model.specs.declared.house.Input.TheVariants as input
use Rattle.jsp_model.specs.Lookup.{empty, is_open}
use Rattle.jsp_model.specs.Runs.{state_after}
use Rattle.jsp_model.specs.Settling.{settle_step}
use Rattle.jsp_model.specs.House.{accepts}
use Rattle.jsp_model.proofs.Joining.{state_after-append}
use Rattle.jsp_model.proofs.Sessions.{Numbered, IsPast, Rises, rises_run, numbered_at_first}
use Rattle.jsp_drive.specs.declared.acts.Act.{Act}
use Rattle.jsp_drive.specs.declared.acts.Act.TheVariants as act
use Rattle.jsp_drive.specs.declared.acts.Sent.{Sent}
use Rattle.jsp_drive.specs.Heard.{heard, heard_as}
use Rattle.jsp_drive.specs.Versions.{longest, version_after, version_behind, heard_each, SplitsInto}
use Rattle.jsp_drive.specs.Lines.{Pending, nothing}
use Rattle.jsp_drive.proofs.Splitting.{version_behind-append, heard_each-append, SplitsInto-nil, SplitsInto-append, SplitsInto-join}
use Rattle.jsp_drive.specs.Tie.{asked_in, AsksBy, Hears, HearsPiece, Asks, Tied}
use Rattle.jsp_drive.specs.Streams.{brings, stream_of, is_request_of, requests_of, AsksByStream, AskByStreams}
use Rattle.jsp_drive.proofs.Asking.{asked_in-append}
use Rattle.jsp_drive.proofs.Turning.{is_turn, settles_turn}

-- ---- whose requests they are

abbrev of : ℕ → List Step → List Step
of s asked = filter (is_request_of s) asked

requests_of-append : (s : ℕ) (xs ys : List Step) → requests_of s (xs ++ ys) ≡ requests_of s xs ++ requests_of s ys
requests_of-append s xs ys = ap (of s) (asked_in-append xs ys) ∙ filter-append (is_request_of s) (asked_in xs) (asked_in ys)

heard_of : (s t : ℕ) (r : Reading) → is_request_of s (heard_as t r) ≡ eqb t s
heard_of s t (request r) = refl
heard_of s t bad_json = refl
heard_of s t (bad_request id) = refl

mine : (s : ℕ) (v : Version) (ps : List (List ℕ)) → of s (heard_each s v ps) ≡ heard_each s v ps
mine s v [] = refl
mine s v (p ∷ ps) = rw (heard_of s s (reading v p)) (rw (eq-eqb s s refl) (ap (λ w. heard s v p ∷ w) (mine s (version_after v p) ps)))

others : (s t : ℕ) (v : Version) (ps : List (List ℕ)) → eqb t s ≡ false → of s (heard_each t v ps) ≡ []
others s t v [] apart = refl
others s t v (p ∷ ps) apart = rw (heard_of s t (reading v p)) (rw apart (others s t (version_after v p) ps apart))

abbrev fault : ℕ → List Step
fault s = step.Fault s None TooLong ∷ []

my_fault : (s : ℕ) → of s (fault s) ≡ fault s
my_fault s = rw (eq-eqb s s refl) refl

their_fault : (s t : ℕ) → eqb t s ≡ false → of s (fault t) ≡ []
their_fault s t apart = rw apart refl

all_mine : (s : ℕ) (v : Version) (ps : List (List ℕ)) (rest : List ℕ) (asked : List Step) (stays : Bool) → AsksBy s v ps rest asked stays → of s asked ≡ asked
all_mine s v ps rest asked stays h =
    elim h [
      | inl e ↦ ap (of s) e.0 ∙ mine s v ps ∙ sym e.0
      | inr e ↦ ap (of s) e.0 ∙ filter-append (is_request_of s) (heard_each s v ps) (fault s) ∙ rw (mine s v ps, my_fault s) (sym e.0)
    ]

none_mine : (s t : ℕ) (v : Version) (ps : List (List ℕ)) (rest : List ℕ) (asked : List Step) (stays : Bool) → eqb t s ≡ false → AsksBy t v ps rest asked stays → of s asked ≡ []
none_mine s t v ps rest asked stays apart h =
    elim h [
      | inl e ↦ ap (of s) e.0 ∙ others s t v ps apart
      | inr e ↦ ap (of s) e.0 ∙ filter-append (is_request_of s) (heard_each t v ps) (fault t) ∙ rw (others s t v ps apart, their_fault s t apart) refl
    ]

maybe_none : (s : ℕ) (b : Bool) (x : Step) → is_request_of s x ≡ false → of s (if b then x ∷ [] else []) ≡ []
maybe_none s true x h = rw h refl
maybe_none s false x h = refl

-- a settle turn is no one's request
turn_none : (s : ℕ) (x : Step) → is_turn x ≡ true → is_request_of s x ≡ false
turn_none s (step.Vote x space) h = refl
turn_none s (step.Decide x commits) h = refl
turn_none s (step.Ask t a ns) h = cc (h)
turn_none s (step.Fault t id r) h = cc (h)
turn_none s (step.Open t) h = refl
turn_none s (step.Shut t) h = refl
turn_none s (step.Clock t) h = refl
turn_none s (step.Grant n ns) h = refl
turn_none s (step.Empty n) h = refl
turn_none s (step.Tell n) h = refl
turn_none s (step.Due item) h = refl
turn_none s (step.HandOut t n) h = refl

turns_none : (s : ℕ) (xs : List Step) → list_all is_turn xs ≡ true → of s xs ≡ []
turns_none s [] h = refl
turns_none s (x ∷ xs) h =
    let parts = and_parts (is_turn x) (list_all is_turn xs) h in
    rw (turn_none s x parts.0) (turns_none s xs parts.1)

-- ---- what an act is to a session

-- a piece of its bytes that is heard
record Brings (s : ℕ) (a : Act) (st : State) (asked : List Step) (new : State) (before after : ℕ → Pending) : Type 0 where
  bytes : List ℕ
  brings_is : brings s st a ≡ bytes
  live : is_open st s ≡ true
  hears : HearsPiece s bytes asked new before after

-- nothing that it asks by
record Spares (s : ℕ) (a : Act) (st : State) (asked : List Step) (new : State) (before after : ℕ → Pending) : Type 0 where
  brings_is : brings s st a ≡ []
  asks_none : of s asked ≡ []
  stays : is_open new s ≡ true → after s ≡ before s
  none : before s ≡ nothing → after s ≡ nothing

piece_turn : (b c : Bool) (s t : ℕ) (bytes : Vec ℕ Global) (st : State) (asked : List Step) (new : State) (before after : ℕ → Pending)
    → eqb t s ≡ b → is_open st t ≡ c → MatchBool c (HearsPiece t bytes.items asked new before after) ((asked ≡ []) × ((u : ℕ) → after u ≡ before u))
    → Brings s (act.Piece t bytes) st asked new before after ⊎ Spares s (act.Piece t bytes) st asked new before after
piece_turn true true s t bytes st asked new before after same live h =
    let is : t ≡ s = eqb-true t s same in
    let mine : is_open st s ≡ true = ap (is_open st) (sym is) ∙ live in
    inl (record {
      bytes = bytes.items;
      brings_is = rw (same, mine) refl;
      live = mine;
      hears = subst (λ (k : ℕ). HearsPiece k bytes.items asked new before after) is h;
    })
piece_turn true false s t bytes st asked new before after same closed h =
    let is : t ≡ s = eqb-true t s same in
    let mine : is_open st s ≡ false = ap (is_open st) (sym is) ∙ closed in
    inr (record { brings_is = rw (same, mine) refl; asks_none = ap (of s) h.0; stays = λ e. h.1 s; none = λ e. h.1 s ∙ e })
piece_turn false true s t bytes st asked new before after apart live h =
    let kept : after s ≡ before s = h.others s apart in
    inr (record {
      brings_is = rw apart refl;
      asks_none = none_mine s t (before t).version h.hears.payloads h.hears.rest asked (is_open new t) apart h.hears.asks;
      stays = λ e. kept;
      none = λ e. kept ∙ e;
    })
piece_turn false false s t bytes st asked new before after apart closed h =
    inr (record { brings_is = rw apart refl; asks_none = ap (of s) h.0; stays = λ e. h.1 s; none = λ e. h.1 s ∙ e })

shut_turn : (b : Bool) (s t : ℕ) (st : State) (asked : List Step) (new : State) (before after : ℕ → Pending)
    → eqb t s ≡ b → Asks (act.Shut t) st asked new before after → Spares s (act.Shut t) st asked new before after
shut_turn true s t st asked new before after same h =
    let is : t ≡ s = eqb-true t s same in
    let gone : after s ≡ nothing = ap after (sym is) ∙ h.2 in
    let closed : is_open new s ≡ false = ap (is_open new) (sym is) ∙ h.1 in
    record { brings_is = refl; asks_none = ap (of s) h.0 ∙ maybe_none s (is_open st t) (step.Shut t) refl; stays = λ e. absurd (cc (e, closed)); none = λ e. gone }
shut_turn false s t st asked new before after apart h =
    record { brings_is = refl; asks_none = ap (of s) h.0 ∙ maybe_none s (is_open st t) (step.Shut t) refl; stays = λ e. h.3 s apart; none = λ e. h.3 s apart ∙ e }

turn : (s : ℕ) (a : Act) (st : State) (asked : List Step) (new : State) (before after : ℕ → Pending) → Asks a st asked new before after
    → Brings s a st asked new before after ⊎ Spares s a st asked new before after
turn s (act.Open t) st asked new before after h =
    inr (record { brings_is = refl; asks_none = ap (of s) h.0 ∙ maybe_none s (accepts st (input.Open t)) (step.Open t) refl; stays = λ e. h.1 s; none = λ e. h.1 s ∙ e })
turn s (act.Clock t) st asked new before after h =
    inr (record { brings_is = refl; asks_none = ap (of s) h.0; stays = λ e. h.1 s; none = λ e. h.1 s ∙ e })
turn s act.Settle st asked new before after h =
    inr (record { brings_is = refl; asks_none = ap (of s) h.0 ∙ turns_none s (option_to_list (settle_step st)) (settles_turn st); stays = λ e. h.1 s; none = λ e. h.1 s ∙ e })
turn s (act.Shut t) st asked new before after h = inr (shut_turn (eqb t s) s t st asked new before after refl h)
turn s (act.Piece t bytes) st asked new before after h = piece_turn (eqb t s) (is_open st t) s t bytes st asked new before after refl refl h

-- ---- a session that is past

record Over (s : ℕ) (st : State) (stream : List ℕ) (steps : List Step) : Type 0 where
  no_stream : stream ≡ []
  no_requests : requests_of s steps ≡ []
  closed : is_open (state_after st steps) s ≡ false

over_at : (s : ℕ) (a : Act) (st : State) (part : List Step) (before after : ℕ → Pending) → is_open st s ≡ false
    → Brings s a st (asked_in part) (state_after st part) before after ⊎ Spares s a st (asked_in part) (state_after st part) before after
    → (brings s st a ≡ []) × (requests_of s part ≡ [])
over_at s a st part before after closed (inl b) = absurd (cc (b.live, closed))
over_at s a st part before after closed (inr b) = (b.brings_is, b.asks_none)

over : (s : ℕ) (st : State) (before : ℕ → Pending) (n : ℕ) (acts : List Act) (steps : List Step) (sent : List Sent) (tied : Tied st before n acts steps sent)
    → IsPast s st → Over s st (stream_of s st before n acts steps sent tied) steps
over s st before n [] steps sent tied past = record { no_stream = refl; no_requests = ap (requests_of s) tied.0; closed = ap (λ w. is_open (state_after st w) s) tied.0 ∙ past.closed }
over s st before n (a ∷ acts) steps sent tied past =
    let now = state_after st tied.part in
    let first = over_at s a st tied.part before tied.after past.closed (turn s a st (asked_in tied.part) now before tied.after tied.it.asks) in
    let rest = over s now tied.after (n + 1) acts tied.more tied.later tied.rest ((rises_run st tied.part tied.it.run).past s past) in
    record {
      no_stream = rw (first.0, rest.no_stream) refl;
      no_requests = ap (requests_of s) tied.steps_are ∙ requests_of-append s tied.part tied.more ∙ rw (first.1, rest.no_requests) refl;
      closed = ap (λ w. is_open (state_after st w) s) tied.steps_are ∙ ap (λ (w : State). is_open w s) (state_after-append st tied.part tied.more) ∙ rest.closed;
    }

-- ---- a session that is open, or that isn't yet

-- the rest is less than a frame
abbrev IsShort : Pending → Type 0
IsShort p = IsUnfinished (longest p.version) p.rest

short_none : IsShort nothing
short_none = inl (omega arith)

-- no byte more
ends : (s : ℕ) (p : Pending) (stays : Bool) → (stays ≡ true → IsShort p) → AsksByStream s p.version (p.rest ++ []) [] stays
ends s p stays short = record { payloads = []; rest = p.rest; split = rw (append-nil p.rest) (SplitsInto-nil p.version p.rest); asks = inl (refl, short) }

-- the frames of a piece, and then those of the later ones
on : (s : ℕ) (v : Version) (first bytes later : List ℕ) (ps : List (List ℕ)) (rest : List ℕ) (asked more : List Step) (stays : Bool)
    → SplitsInto v (first ++ bytes) ps rest → asked ≡ heard_each s v ps → AsksByStream s (version_behind v ps) (rest ++ later) more stays
    → AsksByStream s v (first ++ (bytes ++ later)) (asked ++ more) stays
on s v first bytes later ps rest asked more stays split is h =
    let longer = SplitsInto-append v (first ++ bytes) ps rest later split in
    let all : asked ++ heard_each s (version_behind v ps) h.payloads ≡ heard_each s v (ps ++ h.payloads) =
    ap (λ w. w ++ heard_each s (version_behind v ps) h.payloads) is ∙ sym (heard_each-append s v ps h.payloads) in
    let behind : version_behind (version_behind v ps) h.payloads ≡ version_behind v (ps ++ h.payloads) = sym (version_behind-append v ps h.payloads) in
    record {
      payloads = ps ++ h.payloads;
      rest = h.rest;
      split = subst (λ w. SplitsInto v w (ps ++ h.payloads) h.rest) (append_assoc first bytes later)
          (SplitsInto-join v ((first ++ bytes) ++ later) ps h.payloads (rest ++ later) h.rest longer h.split);
      asks = elim h.asks [
        | inl e ↦ inl (ap (λ w. asked ++ w) e.0 ∙ all, λ live. subst (λ w. IsUnfinished (longest w) h.rest) behind (e.1 live))
        | inr e ↦ inr (
          ap (λ w. asked ++ w) e.0 ∙ sym (append_assoc asked (heard_each s (version_behind v ps) h.payloads) (fault s)) ∙ ap (λ w. w ++ fault s) all,
          subst (λ w. IsTooLong (longest w) h.rest) behind e.1,
          e.2,
        )
      ];
    }

abbrev Claim : ℕ → Pending → List ℕ → List Step → State → Type 0
Claim s p stream steps end' = AsksByStream s p.version (p.rest ++ stream) (requests_of s steps) (is_open end' s)

-- the whole of a run from its part and the rest
joined : (s : ℕ) (st : State) (p : Pending) (now later : List ℕ) (part more steps : List Step) → steps ≡ part ++ more
    → AsksByStream s p.version (p.rest ++ (now ++ later)) (requests_of s part ++ requests_of s more) (is_open (state_after (state_after st part) more) s)
    → Claim s p (now ++ later) steps (state_after st steps)
joined s st p now later part more steps are h =
    rw are (rw (requests_of-append s part more, state_after-append st part more) h)

-- what is known of the rest of a run, from the state after a part
record Rest (s : ℕ) (now : State) (p : Pending) (later : List ℕ) (more : List Step) : Type 0 where
  ready : IsShort p → (is_open now s ≡ true) ⊎ (p ≡ nothing) → Claim s p later more (state_after now more)
  over : IsPast s now → Over s now later more

heard_at : (c : Bool) (s : ℕ) (st now : State) (first after : Pending) (bytes later : List ℕ) (asked more : List Step) → is_open now s ≡ c
    → Hears s first.version (first.rest ++ bytes) after asked (is_open now s) → s ≤ now.last_session → Rest s now after later more
    → AsksByStream s first.version (first.rest ++ (bytes ++ later)) (asked ++ requests_of s more) (is_open (state_after now more) s)
heard_at true s st now first after bytes later asked more live h low rest =
    let pends : Pending = record { version = version_behind first.version h.payloads; rest = h.rest } in
    let after_is : after ≡ pends = h.after_is ∙ rw live refl in
    elim h.asks [
      | inl e ↦
          let short : IsShort after = subst IsShort (sym after_is) (e.1 live) in
          let next = subst (λ (p : Pending). Claim s p later more (state_after now more)) after_is (rest.ready short (inl live)) in
          on s first.version first.rest bytes later h.payloads h.rest asked (requests_of s more) (is_open (state_after now more) s) h.split e.0 next
      | inr e ↦ absurd (cc (live, e.2))
    ]
heard_at false s st now first after bytes later asked more closed h low rest =
    let gone = rest.over (record { closed = closed; low = low }) in
    let asks : AsksBy s first.version h.payloads h.rest (asked ++ []) false = rw (append-nil asked) (rw closed at h.asks) in
    rw (gone.no_stream, gone.no_requests, gone.closed) (record { payloads = h.payloads; rest = h.rest; split = rw (append-nil bytes) h.split; asks = asks })

spared_at : (c : Bool) (s : ℕ) (st now : State) (first after : Pending) (later : List ℕ) (more : List Step) → is_open now s ≡ c
    → (is_open now s ≡ true → after ≡ first) → (first ≡ nothing → after ≡ nothing)
    → IsShort first → (is_open st s ≡ true) ⊎ (first ≡ nothing) → (is_open st s ≡ true → s ≤ now.last_session) → Rest s now after later more
    → Claim s first later more (state_after now more)
spared_at true s st now first after later more live stays none short here low rest =
    let same : after ≡ first = stays live in
    subst (λ (p : Pending). Claim s p later more (state_after now more)) same (rest.ready (subst IsShort (sym same) short) (inl live))
spared_at false s st now first after later more closed stays none short (inl live) low rest =
    let gone = rest.over (record { closed = closed; low = low live }) in
    rw (gone.no_stream, gone.no_requests, gone.closed) (ends s first false (λ e. cc (e)))
spared_at false s st now first after later more closed stays none short (inr empty') low rest =
    let same : after ≡ first = none empty' ∙ sym empty' in
    subst (λ (p : Pending). Claim s p later more (state_after now more)) same (rest.ready (subst IsShort (sym same) short) (inr (none empty')))

part_at : (s : ℕ) (a : Act) (st : State) (part more : List Step) (before after : ℕ → Pending) (later : List ℕ) → Numbered st → Rises st (state_after st part)
    → IsShort (before s) → (is_open st s ≡ true) ⊎ (before s ≡ nothing)
    → Brings s a st (asked_in part) (state_after st part) before after ⊎ Spares s a st (asked_in part) (state_after st part) before after
    → Rest s (state_after st part) (after s) later more
    → AsksByStream s (before s).version ((before s).rest ++ (brings s st a ++ later)) (requests_of s part ++ requests_of s more) (is_open (state_after (state_after st part) more) s)
part_at s a st part more before after later n rises short here (inl b) rest =
    let now = state_after st part in
    let h = b.hears.hears in
    let asked : requests_of s part ≡ asked_in part = all_mine s (before s).version h.payloads h.rest (asked_in part) (is_open now s) h.asks in
    rw (b.brings_is, asked) (heard_at (is_open now s) s st now (before s) (after s) b.bytes later (asked_in part) more refl h (omega (arith, rises.last, n.within s b.live)) rest)
part_at s a st part more before after later n rises short here (inr b) rest =
    let now = state_after st part in
    rw (b.brings_is, b.asks_none)
    (spared_at (is_open now s) s st now (before s) (after s) later more refl b.stays b.none short here (λ live. omega (arith, rises.last, n.within s live)) rest)

streams : (s : ℕ) (st : State) (before : ℕ → Pending) (n : ℕ) (acts : List Act) (steps : List Step) (sent : List Sent) (tied : Tied st before n acts steps sent)
    → Numbered st → IsShort (before s) → (is_open st s ≡ true) ⊎ (before s ≡ nothing)
    → Claim s (before s) (stream_of s st before n acts steps sent tied) steps (state_after st steps)
streams s st before n [] steps sent tied numbered short here = rw tied.0 (ends s (before s) (is_open st s) (λ e. short))
streams s st before n (a ∷ acts) steps sent tied numbered short here =
    let now = state_after st tied.part in
    let rises = rises_run st tied.part tied.it.run in
    let later = stream_of s now tied.after (n + 1) acts tied.more tied.later tied.rest in
    let rest : Rest s now (tied.after s) later tied.more = record {
      ready = λ u h. streams s now tied.after (n + 1) acts tied.more tied.later tied.rest (rises.numbered numbered) u h;
      over = λ past. over s now tied.after (n + 1) acts tied.more tied.later tied.rest past;
    } in
    joined s st (before s) (brings s st a) later tied.part tied.more steps tied.steps_are
    (part_at s a st tied.part tied.more before tied.after later numbered rises short here (turn s a st (asked_in tied.part) now before tied.after tied.it.asks) rest)

-- However the steps are tied to the acts, each session asks by its whole stream.
pub ask_by_streams : (spaces : List (List ℕ)) (acts : List Act) (steps : List Step) (sent : List Sent) → AskByStreams spaces acts steps sent
ask_by_streams spaces acts steps sent = λ s tied. streams s (empty spaces) (λ t. nothing) 0 acts steps sent tied (numbered_at_first spaces) short_none (inr refl)
