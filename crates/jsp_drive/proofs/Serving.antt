-- A session's frames are acted one after another.
use Rattle.std.proofs.Common.{◌≡◌, ℕ, ◌+◌, ◌<◌, Bool, true, false, List, [], ◌∷◌, ◌++◌, length, None, refl, ap, sym, ◌∙◌, subst, arith, inl, inr, length-append}
use Rattle.std.specs.Prelude.{if◌then◌else◌, ◌⊎◌}
use Rattle.std.specs.Int.{w32, to_be_bytes}
use Rattle.jsp_frame.specs.Stream.{frame_of, BeginsWith, IsTooLong}
use Rattle.jsp_reply.specs.declared.refusal.Refusal.TheVariants.{TooLong}
use Rattle.jsp_model.specs.declared.state.State.{State}
use Rattle.jsp_model.specs.declared.step.Step.{Step}
use Rattle.jsp_model.specs.declared.step.Step.TheVariants as step
use Rattle.jsp_model.specs.declared.house.Input.{Input}
use Rattle.jsp_model.specs.declared.house.Input.TheVariants as input
use Rattle.jsp_model.specs.Lookup.{is_open}
use Rattle.jsp_model.specs.Due.{due}
use Rattle.jsp_model.specs.Quiet.{are_quiet}
use Rattle.jsp_model.specs.House.{Makes, own_of, touched, accepts, step_of}
use Rattle.jsp_model.proofs.Joining.{Makes-none, Makes-then, own_of-append}
use Rattle.jsp_model.proofs.Closing.{too_long_run}
use Rattle.jsp_quiet.specs.Steady.{IsSteady}
use Rattle.jsp_drive.specs.declared.hear.LineInput.{LineInput}
use Rattle.jsp_drive.specs.declared.line.Phase.{Phase}
use Rattle.jsp_drive.specs.declared.line.Phase.TheVariants as phase
use Rattle.jsp_drive.specs.declared.line.Next.TheVariants as next
use Rattle.jsp_drive.specs.Heard.{heard}
use Rattle.jsp_drive.specs.Versions.{longest, version_after, version_behind, heard_each, SplitsInto}
use Rattle.jsp_drive.specs.Line.{Unheard, IsOpen, input_of, GivesFrame, GivesEnd, IsNextOf}
use Rattle.jsp_drive.specs.Calls.{ActsOn, Serves}
use Rattle.jsp_drive.proofs.Splitting.{version_behind-append, heard_each-more, SplitsInto-nil, SplitsInto-frame}
use Rattle.jsp_drive.proofs.Quieting.{acts_undecided, quiet_then}

-- so far the frames of these payloads were acted
pub record Serving (s : ℕ) (old now : State) (before log : List Step) (first line : Unheard) : Type 0 where
  pub payloads : List (List ℕ)
  pub steps : List Step
  pub makes : Makes old now before log steps
  pub own : own_of steps ≡ heard_each s first.version payloads
  pub split : SplitsInto first.version first.rest payloads line.rest
  pub version_is : line.version ≡ version_behind first.version payloads
  pub nothing_due : due old ≡ None → due now ≡ None
  pub quiet : IsSteady old → are_quiet now (touched old steps) ≡ true
  pub is_open : IsOpen line

serving_start : (s : ℕ) (st : State) (log : List Step) (line : Unheard) → IsOpen line → Serving s st st log log line line
serving_start s st log line h = record {
  payloads = [];
  steps = [];
  makes = Makes-none st log;
  own = refl;
  split = SplitsInto-nil line.version line.rest;
  version_is = refl;
  nothing_due = λ e. e;
  quiet = λ steady. refl;
  is_open = h;
}

-- the input is accepted, so it is the one step that was asked for
own_is : (b : Bool) (own : List Step) (x : Step) → own ≡ (if b then x ∷ [] else []) → b ≡ true → own ≡ x ∷ []
own_is true own x h is = h
own_is false own x h is = cc (is)

pub acted_one : (old new : State) (log log' : List Step) (x : Input) (a : ActsOn old new log log' x) → accepts old x ≡ true → own_of a.steps ≡ step_of x ∷ []
acted_one old new log log' x a is = own_is (accepts old x) (own_of a.steps) (step_of x) a.own is

-- what was touched before stays quiet
quiet_on : (old mid now : State) (before log after steps : List Step) (x : Input) (a : ActsOn mid now log after x) → accepts mid x ≡ true
    → Makes old mid before log steps → (IsSteady old → are_quiet mid (touched old steps) ≡ true) → IsSteady old → are_quiet now (touched old (steps ++ a.steps)) ≡ true
quiet_on old mid now before log after steps x a live makes quiet steady =
    quiet_then old mid now before log after steps a.steps steady makes a.makes (acts_undecided x a.steps (acted_one mid now log after x a live)) (quiet steady) a.quiet

serving_more : (s : ℕ) (old mid now : State) (before log after : List Step) (first line line' : Unheard) (x : LineInput)
    → Serving s old mid before log first line → GivesFrame line x line'
    → ActsOn mid now log after (input_of s x) → accepts mid (input_of s x) ≡ true
    → Serving s old now before after first line'
serving_more s old mid now before log after first line line' x h gives acts taken =
    let payload = gives.frame.payload in
    let v = version_behind first.version h.payloads in
    let begins : BeginsWith (longest v) line.rest payload line'.rest = subst (λ w. BeginsWith (longest w) line.rest payload line'.rest) h.version_is gives.frame.begins in
    let hears : step_of (input_of s x) ≡ heard s v payload = gives.frame.heard_as s ∙ ap (λ w. heard s w payload) h.version_is in
    let one : own_of acts.steps ≡ heard s v payload ∷ [] = acted_one mid now log after (input_of s x) acts taken ∙ ap (λ w. w ∷ []) hears in
    record {
      payloads = h.payloads ++ payload ∷ [];
      steps = h.steps ++ acts.steps;
      makes = Makes-then old mid now before log after h.steps acts.steps h.makes acts.makes;
      own = own_of-append h.steps acts.steps ∙ ap (λ w. w ++ own_of acts.steps) h.own ∙ ap (λ w. heard_each s first.version h.payloads ++ w) one
          ∙ sym (heard_each-more s first.version h.payloads payload);
      split = SplitsInto-frame first.version first.rest h.payloads line.rest payload line'.rest h.split begins;
      version_is = gives.frame.behind ∙ ap (λ w. version_after w payload) h.version_is ∙ sym (version_behind-append first.version h.payloads (payload ∷ []));
      nothing_due = λ e. acts.nothing_due;
      quiet = quiet_on old mid now before log after h.steps (input_of s x) acts taken h.makes h.quiet;
      is_open = gives.stays ∙ h.is_open;
    }

-- the line has ended, and so the session is closed
pub record Served (s : ℕ) (old now : State) (before log : List Step) (first line : Unheard) : Type 0 where
  pub closed : is_open now s ≡ false
  pub serves : Serves s old now before log first line

-- the rest begins with a length past the limit
serves_long : (s : ℕ) (old mid now : State) (before log after : List Step) (first line line' : Unheard) (x : LineInput)
    → Serving s old mid before log first line → is_open mid s ≡ true → GivesEnd line x line'
    → ActsOn mid now log after (input.Fault s None TooLong) → Served s old now before after first line'
serves_long s old mid now before log after first line line' x h live ends acts =
    let rest : line'.rest ≡ line.rest = ap (λ (u : Unheard). u.rest) ends.closes in
    let version_is : line'.version ≡ version_behind first.version h.payloads = ap (λ (u : Unheard). u.version) ends.closes ∙ h.version_is in
    let long : IsTooLong (longest (version_behind first.version h.payloads)) line.rest = subst (λ w. IsTooLong (longest w) line.rest) h.version_is ends.too_long in
    let one : own_of acts.steps ≡ step.Fault s None TooLong ∷ [] = acted_one mid now log after (input.Fault s None TooLong) acts live in
    let closed' : is_open now s ≡ false = ap (λ (w : State). is_open w s) (sym acts.makes.view) ∙ too_long_run s None mid acts.steps one in
    record {
      closed = closed';
      serves = record {
        steps = h.steps ++ acts.steps;
        makes = Makes-then old mid now before log after h.steps acts.steps h.makes acts.makes;
        payloads = h.payloads;
        split = rw rest h.split;
        version = version_is;
        asks = inr (
          own_of-append h.steps acts.steps ∙ ap (λ w. w ++ own_of acts.steps) h.own ∙ ap (λ w. heard_each s first.version h.payloads ++ w) one,
          rw rest long,
          closed',
        );
        nothing_due = λ e. acts.nothing_due;
        quiet = quiet_on old mid now before log after h.steps (input.Fault s None TooLong) acts live h.makes h.quiet;
        goes_on = λ open'. absurd (cc (open', closed'));
      };
    }

-- ---- the whole loop

-- inputs can come, or the line has ended
abbrev pub Goes : ℕ → State → State → List Step → List Step → Unheard → Unheard → Type 0
Goes s old now before log first line = Serving s old now before log first line ⊎ Served s old now before log first line

pub goes_start : (s : ℕ) (st : State) (log : List Step) (line : Unheard) → IsOpen line → Goes s st st log log line line
goes_start s st log line h = inl (serving_start s st log line h)

pub goes_more : (s : ℕ) (old mid now : State) (before log after : List Step) (first line line' : Unheard) (x : LineInput)
    → Goes s old mid before log first line → is_open mid s ≡ true → IsNextOf line (next.Input x) line'
    → ActsOn mid now log after (input_of s x) → accepts mid (input_of s x) ≡ is_open mid s
    → Goes s old now before after first line'
goes_more s old mid now before log after first line line' x (inr ended) live a acts accepted = absurd (cc (live, ended.closed))
goes_more s old mid now before log after first line line' x (inl h) live (can, inl gives) acts accepted =
    inl (serving_more s old mid now before log after first line line' x h gives acts (accepted ∙ live))
goes_more s old mid now before log after first line line' x (inl h) live (can, inr ends) acts accepted =
    inr (serves_long s old mid now before log after first line line' x h live ends
    (subst (λ (y : LineInput). ActsOn mid now log after (input_of s y)) ends.fault acts))

-- ---- how much is left

abbrev one_if_open : Phase → ℕ
one_if_open phase.Open = 1
one_if_open phase.Closed = 0
one_if_open phase.NoMemory = 0

-- how many inputs a line can give, at most
abbrev pub left : Unheard → ℕ
left u = length u.rest + one_if_open u.phase

-- a frame is some bytes, and a line ends once
pub less_left : (old new : Unheard) (x : LineInput) → IsNextOf old (next.Input x) new → left new < left old
less_left old new x (can, inl gives) =
    let payload = gives.frame.payload in
    let all : length old.rest ≡ 4 + length payload + length new.rest =
    ap length gives.frame.begins.whole ∙ length-append (frame_of payload) new.rest ∙ ap (λ n. n + length new.rest) (length-append (to_be_bytes w32 (length payload)) payload) in
    let same : one_if_open new.phase ≡ one_if_open old.phase = ap one_if_open gives.stays in
    omega (arith, all, same)
less_left old new x (can, inr ends) =
    let same : length new.rest ≡ length old.rest = ap (λ (u : Unheard). length u.rest) ends.closes in
    let before : one_if_open old.phase ≡ 1 = ap one_if_open can in
    let after : one_if_open new.phase ≡ 0 = ap (λ (u : Unheard). one_if_open u.phase) ends.closes in
    omega (arith, same, before, after)
