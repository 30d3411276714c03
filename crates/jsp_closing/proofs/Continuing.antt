-- What a line gave is the beginning of all that its stream says.
use Rattle.std.proofs.Common.{◌≡◌, ℕ, ◌+◌, ◌^◌, ◌<◌, Bool, true, false, List, [], ◌∷◌, ◌++◌, length, flat_map, refl, ap, ap₂, sym, ◌∙◌, inl, inr, arith, append-nil, append_assoc, length-append}
use Rattle.std.proofs.lemmas.List.{append_cancel_left}
use Rattle.jsp_wire.specs.declared.ask.Version.{Version}
use Rattle.jsp_wire.specs.declared.ask.Version.TheVariants as version
use Rattle.jsp_frame.specs.Stream.{frame_of, HasNoFrame, IsTooLong}
use Rattle.jsp_frame.specs.Reading.{EndsIn}
use Rattle.jsp_frame.proofs.Readings.{one_frame, no_frame}
use Rattle.jsp_model.specs.declared.step.Step.{Step}
use Rattle.jsp_model.specs.House.{step_of}
use Rattle.jsp_drive.specs.declared.hear.LineInput.{LineInput}
use Rattle.jsp_drive.specs.declared.line.Next.TheVariants as next
use Rattle.jsp_drive.specs.declared.line.Phase.{Phase}
use Rattle.jsp_drive.specs.declared.line.Phase.TheVariants as phase
use Rattle.jsp_drive.specs.Versions.{longest, version_after, version_behind, heard_each, SplitsInto, HasPayloads}
use Rattle.jsp_drive.specs.Line.{Unheard, IsNextOf, IsOutOfMemory, input_of}
use Rattle.jsp_drive.specs.Giving.{heard_all, Gave, GaveAll, FollowsStream}
use Rattle.jsp_drive.proofs.Splitting.{heard_each-append}
use Rattle.jsp_drive.proofs.Readings.{Reads-unique}

abbrev one : Version
one = version.One

-- ---- frames

-- a length within the limit fits its four bytes
longest-fits : (v : Version) → longest v < 2 ^ 32
longest-fits version.One = omega arith
longest-fits version.Two = omega arith

begins : (p : List ℕ) (ps : List (List ℕ)) (stream rest : List ℕ) → stream ≡ flat_map frame_of (p ∷ ps) ++ rest → stream ≡ frame_of p ++ (flat_map frame_of ps ++ rest)
begins p ps stream rest whole = whole ∙ append_assoc (frame_of p) (flat_map frame_of ps) rest

-- frames that were taken are the first of all that there are
first_frames : (v : Version) (stream : List ℕ) (ps qs : List (List ℕ)) (rest last : List ℕ)
    → SplitsInto v stream ps rest → HasPayloads v stream qs last → (more : List (List ℕ)) × (qs ≡ ps ++ more)
first_frames v stream [] qs rest last split reads = (qs, refl)
first_frames v stream (p ∷ ps) [] rest last split reads =
    absurd (no_frame (longest v) p (flat_map frame_of ps ++ rest) last (longest-fits v) split.within.0
    (sym reads.split.whole ∙ begins p ps stream rest split.whole) reads.ended)
first_frames v stream (p ∷ ps) (q ∷ qs) rest last split reads =
    let fits = longest-fits v in
    let first = one_frame p q (flat_map frame_of ps ++ rest) (flat_map frame_of qs ++ last) (omega (arith, split.within.0)) (omega (arith, reads.split.within.0))
    (sym (begins p ps stream rest split.whole) ∙ begins q qs stream last reads.split.whole) in
    let mine : SplitsInto (version_after v p) (flat_map frame_of ps ++ rest) ps rest = record { within = split.within.1; whole = refl } in
    let behind : HasPayloads (version_after v q) (flat_map frame_of qs ++ last) qs last = record { split = record { within = reads.split.within.1; whole = refl }; ended = reads.ended } in
    let other : HasPayloads (version_after v p) (flat_map frame_of ps ++ rest) qs last = rw (first.0, first.1) behind in
    let more = first_frames (version_after v p) (flat_map frame_of ps ++ rest) ps qs rest last mine other in
    (more.0, ap₂ (λ x xs. x ∷ xs) (sym first.0) more.1)

-- ---- what a stream says

no_more_frames : (too_long : Bool) (limit : ℕ) (rest : List ℕ) → EndsIn too_long limit rest → HasNoFrame limit rest
no_more_frames true limit rest h = inr h
no_more_frames false limit rest h = inl h

reads_all : (s : ℕ) (stream : List ℕ) (asked : List Step) (too_long : Bool) (h : GaveAll s stream asked too_long) → HasPayloads one stream h.payloads h.rest
reads_all s stream asked too_long h = record { split = h.split; ended = no_more_frames too_long (longest (version_behind one h.payloads)) h.rest h.ended }

-- a rest ends in one way
too_long_once : (too_long : Bool) (limit : ℕ) (rest : List ℕ) → EndsIn too_long limit rest → IsTooLong limit rest → too_long ≡ true
too_long_once true limit rest h long = refl
too_long_once false limit rest h long = absurd (elim h [ inl short ↦ omega (arith, short, long.0) | inr part ↦ omega (arith, part.0, long.1) ])

ends_once : (a b : Bool) (limit : ℕ) (rest : List ℕ) → EndsIn a limit rest → EndsIn b limit rest → a ≡ b
ends_once a true limit rest h k = too_long_once a limit rest h k
ends_once true false limit rest h k = sym (too_long_once false limit rest k h)
ends_once false false limit rest h k = refl

-- a stream says one thing
pub says_once : (s : ℕ) (stream : List ℕ) (xs ys : List Step) (a b : Bool) → GaveAll s stream xs a → GaveAll s stream ys b → xs ≡ ys
says_once s stream xs ys a b h k =
    let same = Reads-unique one stream h.payloads k.payloads h.rest k.rest (reads_all s stream xs a h) (reads_all s stream ys b k) in
    let ended : EndsIn b (longest (version_behind one h.payloads)) h.rest = rw (same.0, same.1) k.ended in
    let alike : a ≡ b = ends_once a b (longest (version_behind one h.payloads)) h.rest h.ended ended in
    h.asked_is ∙ ap₂ (heard_all s) same.0 alike ∙ sym k.asked_is

-- what a line gave, unless memory was wanting, is the beginning of that
pub gave_first : (s : ℕ) (stream : List ℕ) (asked all : List Step) (too_long : Bool) (line : Unheard)
    → (IsOutOfMemory line → ⊥) → Gave s stream asked line → GaveAll s stream all too_long → (left : List Step) × (all ≡ asked ++ left)
gave_first s stream asked all too_long line sound h k = at line.phase refl
  where
    at : (p : Phase) → line.phase ≡ p → (left : List Step) × (all ≡ asked ++ left)
    at phase.NoMemory is = absurd (sound is)
    at phase.Open is =
        let v = version_behind one h.payloads in
        let stands : (v ≡ line.version) × (h.rest ≡ line.rest) × (h.too_long ≡ false) = rw is at h.stands in
        let more = first_frames one stream h.payloads k.payloads h.rest k.rest h.split (reads_all s stream all too_long k) in
        let given : asked ≡ heard_each s one h.payloads = h.asked_is ∙ ap (heard_all s h.payloads) stands.2 ∙ append-nil (heard_each s one h.payloads) in
        let rest = heard_all s [] too_long in
        let left = heard_each s v more.0 ++ rest in
        let whole : all ≡ heard_each s one k.payloads ++ rest = k.asked_is in (
          left,
          whole ∙ ap (λ qs. heard_each s one qs ++ rest) more.1 ∙ ap (λ xs. xs ++ rest) (heard_each-append s one h.payloads more.0)
              ∙ append_assoc (heard_each s one h.payloads) (heard_each s v more.0) rest ∙ ap (λ xs. xs ++ left) (sym given),
        )
    at phase.Closed is =
        let v = version_behind one h.payloads in
        let stands : IsTooLong (longest v) h.rest × (h.too_long ≡ true) = rw is at h.stands in
        let mine : HasPayloads one stream h.payloads h.rest = record { split = h.split; ended = inr stands.0 } in
        let same = Reads-unique one stream h.payloads k.payloads h.rest k.rest mine (reads_all s stream all too_long k) in
        let ended : EndsIn too_long (longest v) h.rest = rw (same.0, same.1) k.ended in
        let long : too_long ≡ true = too_long_once too_long (longest v) h.rest ended stands.0 in
        ([], k.asked_is ∙ ap₂ (heard_all s) (sym same.0) (long ∙ sym stands.1) ∙ sym h.asked_is ∙ sym (append-nil asked))

-- ---- what a line gives next

-- where it gives an input, memory wasn't wanting
gives_sound : (old new : Unheard) (x : LineInput) → IsNextOf old (next.Input x) new → IsOutOfMemory new → ⊥
gives_sound old new x h out =
    elim h.1 [
      | inl frame ↦ absurd (cc (sym out ∙ frame.stays ∙ h.0))
      | inr last ↦ absurd (cc (sym out ∙ ap (λ (u : Unheard). u.phase) last.closes))
    ]

-- what a session asks by an input
abbrev pub given_step : ℕ → LineInput → Step
given_step s x = step_of (input_of s x)

-- something is left to say where a line gives an input
pub more_is_left : (s : ℕ) (stream : List ℕ) (asked left : List Step) (too_long : Bool) (x : LineInput) (old new : Unheard)
    → IsNextOf old (next.Input x) new → FollowsStream old (next.Input x) new → Gave s stream asked old → GaveAll s stream (asked ++ left) too_long
    → (more : List Step) × (left ≡ given_step s x ∷ more)
more_is_left s stream asked left too_long x old new answers follows h k =
    let rest = gave_first s stream (asked ++ given_step s x ∷ []) (asked ++ left) too_long new (gives_sound old new x answers) (follows s stream asked h) k in
    (rest.0, append_cancel_left asked left (given_step s x ∷ rest.0) (rest.1 ∙ append_assoc asked (given_step s x ∷ []) rest.0))

-- the input is what the stream says next
pub next_is : (s : ℕ) (stream : List ℕ) (asked more : List Step) (wanted : Step) (too_long : Bool) (x : LineInput) (old new : Unheard)
    → IsNextOf old (next.Input x) new → FollowsStream old (next.Input x) new → Gave s stream asked old → GaveAll s stream (asked ++ wanted ∷ more) too_long → given_step s x ≡ wanted
next_is s stream asked more wanted too_long x old new answers follows h k =
    let left = more_is_left s stream asked (wanted ∷ more) too_long x old new answers follows h k in
    cc (left.1)

-- a stream that says no more doesn't say this next
pub no_next : (s : ℕ) (stream : List ℕ) (asked more : List Step) (wanted : Step) (a b : Bool) → GaveAll s stream asked a → GaveAll s stream (asked ++ wanted ∷ more) b → ⊥
no_next s stream asked more wanted a b h k =
    let same = says_once s stream asked (asked ++ wanted ∷ more) a b h k in
    let counts : length asked ≡ length asked + length (wanted ∷ more) = ap length same ∙ length-append asked (wanted ∷ more) in
    absurd (omega (arith, counts))
