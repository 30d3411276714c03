-- What the bytes of a line say beyond what it gave.
use Rattle.std.proofs.Common.{◌≡◌, ◌≢◌, ℕ, ◌+◌, Bool, true, false, List, [], ◌∷◌, ◌++◌, length, replicate, drop, flat_map, eqb, refl, ap, sym, ◌∙◌, subst, inl, inr, append-nil, append_assoc, drop_at}
use Rattle.std.specs.Prelude.{◌||◌, None, if◌then◌else◌}
use Rattle.std.proofs.Math.Bool.{or-false}
use Rattle.std.proofs.lemmas.Bool.{cases_Bool}
use Rattle.std.proofs.lemmas.List.{get_or-drop}
use Rattle.std.proofs.lemmas.List.Folds.{list_any-append}
use Rattle.jsp_wire.specs.declared.ask.Version.{Version}
use Rattle.jsp_wire.specs.declared.ask.Version.TheVariants as version
use Rattle.jsp_frame.specs.Stream.{frame_of, HasNoFrame}
use Rattle.jsp_frame.specs.Reading.{EndsIn}
use Rattle.jsp_frame.proofs.Readings.{AreBytes}
use Rattle.jsp_reply.specs.declared.refusal.Refusal.TheVariants.{TooLong}
use Rattle.jsp_model.specs.declared.state.State.{State}
use Rattle.jsp_model.specs.declared.step.Step.{Step}
use Rattle.jsp_model.specs.declared.step.Step.TheVariants as step
use Rattle.jsp_drive.specs.Versions.{longest, version_behind, heard_each, HasPayloads}
use Rattle.jsp_drive.specs.Line.{Unheard, IsOpen}
use Rattle.jsp_drive.specs.Streams.{requests_of}
use Rattle.jsp_drive.specs.Giving.{heard_all, Gave, GaveAll}
use Rattle.jsp_drive.proofs.Splitting.{version_behind-append, heard_each-append, SplitsInto-join}
use Rattle.jsp_drive.proofs.Readings.{Reads-exists}
use Rattle.jsp_closing.specs.Asking.{SaysMore}
use Rattle.jsp_closing.specs.Lines.{shuts, was_shut}
use Rattle.jsp_closing.specs.declared.closed.LineReport.{LineReport}
use Rattle.jsp_closing.specs.Leaving.{AsksIn, Marks, MayLeave, TellShut}
use Rattle.jsp_closing.proofs.Places.{at_replicate}

abbrev one : Version
one = version.One

-- a line that gave all left nothing
pub says_no_more : (s : ℕ) (read : List ℕ) (asked : List Step) (too_long : Bool) → GaveAll s read asked too_long → SaysMore s read asked false
says_no_more s read asked too_long all = record {
  left = [];
  too_long = too_long;
  says = rw (append-nil asked) all;
  nothing = λ e. refl;
}

-- what follows the first bytes are bytes too
rest_bytes : (stream front rest : List ℕ) → stream ≡ front ++ rest → AreBytes stream → AreBytes rest
rest_bytes stream front rest whole bytes i =
    let is : drop (length front) stream ≡ rest = rw whole (drop_at front rest (length front) refl) in
    rw (← is) (rw (get_or-drop (length front) stream i 0) (bytes (length front + i)))

-- the fault of a frame that is too long
abbrev fault : ℕ → Bool → List Step
fault s too_long = if too_long then step.Fault s None TooLong ∷ [] else []

-- how a rest without a frame ends
ending : (limit : ℕ) (rest : List ℕ) → HasNoFrame limit rest → (too_long : Bool) × EndsIn too_long limit rest
ending limit rest (inl unfinished) = (false, unfinished)
ending limit rest (inr long) = (true, long)

-- what is left of a line that isn't closed
pub says_more : (s : ℕ) (read : List ℕ) (asked : List Step) (line : Unheard) → AreBytes read → IsOpen line → Gave s read asked line → SaysMore s read asked true
says_more s read asked line bytes is h =
    let at : (version_behind one h.payloads ≡ line.version) × (h.rest ≡ line.rest) × (h.too_long ≡ false) = rw is at h.stands in
    let v = version_behind one h.payloads in
    let more = Reads-exists v h.rest (rest_bytes read (flat_map frame_of h.payloads) h.rest h.split.whole bytes) in
    let payloads = more.0 in
    let rest = more.1 in
    let reads : HasPayloads v h.rest payloads rest = more.2 in
    let behind : version_behind v payloads ≡ version_behind one (h.payloads ++ payloads) = sym (version_behind-append one h.payloads payloads) in
    let end' = ending (longest (version_behind v payloads)) rest reads.ended in
    let too_long = end'.0 in
    let given : asked ≡ heard_each s one h.payloads = h.asked_is ∙ ap (heard_all s h.payloads) at.2 ∙ append-nil (heard_each s one h.payloads) in
    record {
      left = heard_each s v payloads ++ fault s too_long;
      too_long = too_long;
      says = record {
        payloads = h.payloads ++ payloads;
        rest = rest;
        split = SplitsInto-join one read h.payloads payloads h.rest rest h.split reads.split;
        ended = subst (λ (w : Version). EndsIn too_long (longest w) rest) behind end'.1;
        asked_is = ap (λ (xs : List Step). xs ++ (heard_each s v payloads ++ fault s too_long)) given
            ∙ sym (append_assoc (heard_each s one h.payloads) (heard_each s v payloads) (fault s too_long))
            ∙ ap (λ (xs : List Step). xs ++ fault s too_long) (sym (heard_each-append s one h.payloads payloads));
      };
      nothing = λ e. absurd (cc (e));
    }

-- ---- who was shut

-- before the first step
pub tell_none : (n : ℕ) → TellShut (replicate n false) []
tell_none n i flag at = at_replicate n i false flag at

-- a session is shut
pub tell_shut : (old new : List Bool) (steps : List Step) (s : ℕ) → Marks s old new → TellShut old steps → TellShut new (steps ++ step.Shut s ∷ [])
tell_shut old new steps s marks tell i flag at =
    let (before, was, is) = marks.each i flag at in
    is ∙ ap (λ b. b || eqb s (i + 1)) (tell i before was) ∙ ap (λ b. was_shut (i + 1) steps || b) (sym (or-false (eqb s (i + 1))))
    ∙ sym (list_any-append (shuts (i + 1)) steps (step.Shut s ∷ []))

shuts_none : (x : Step) → ((s : ℕ) → x ≡ step.Shut s → ⊥) → (t : ℕ) → shuts t x ≡ false
shuts_none (step.Shut s) other t = absurd (other s refl)
shuts_none _ other t = refl

-- none is shut
pub tell_other : (flags : List Bool) (steps : List Step) (x : Step) → ((s : ℕ) → x ≡ step.Shut s → ⊥) → TellShut flags steps → TellShut flags (steps ++ x ∷ [])
tell_other flags steps x other tell i flag at =
    tell i flag at ∙ sym (or-false (was_shut (i + 1) steps)) ∙ ap (λ b. was_shut (i + 1) steps || b) (sym (or-false (shuts (i + 1) x) ∙ shuts_none x other (i + 1)))
    ∙ sym (list_any-append (shuts (i + 1)) steps (x ∷ []))

-- ---- what a line may leave

-- what a line may leave that asks in the steps
pub may_leave : (s : ℕ) (steps : List Step) (after : State) (shut more : Bool) (line : LineReport) → shut ≡ was_shut s steps → AsksIn s steps after line
    → ((left : List Step) (too_long : Bool) → GaveAll s line.read.items (requests_of s steps ++ left) too_long → more ≡ true → left ≢ []) → MayLeave s shut after line more
may_leave s steps after shut more line is a only sound =
    elim (a.may_leave sound) [
      | inl none ↦ inl (elim (cases_Bool more) [
        | inl some ↦ absurd (only a.says.left a.says.too_long a.says.says some (a.says.nothing none))
        | inr none' ↦ none'
      ])
      | inr some ↦ elim some [ inl itself ↦ inr (inl (itself.0, is ∙ itself.1)) | inr cut ↦ inr (inr (cut.cut, (cut.by_house, is ∙ cut.shut))) ]
    ]
