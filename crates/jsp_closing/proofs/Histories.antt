-- Which histories the lines can have asked: at most the one that is read again from them.
use Rattle.std.proofs.Common.{◌≡◌, ◌≤◌, ◌<◌, ℕ, ◌+◌, ◌-◌, Bool, true, false, List, [], ◌∷◌, ◌++◌, Option, Some, None, length, map, take, drop, get_or, eqb, refl, ap, sym, ◌∙◌, subst, inl, inr, arith, append_assoc, append-nil, drop_at, length-append}
use Rattle.std.specs.Prelude.{if◌then◌else◌, slice_get}
use Rattle.std.proofs.lemmas.List.{append_cancel_left, length-map, length-take-le, map-append}
use Rattle.std.proofs.lemmas.Bool.{cases_Bool, eqb-true, eq-eqb, not-false}
use Rattle.std.proofs.lemmas.Option.{slice_get_within}
use Rattle.jsp_wire.specs.declared.ask.Request.{Request}
use Rattle.jsp_reply.specs.declared.refusal.Refusal.{Refusal}
use Rattle.jsp_reply.specs.declared.refusal.Refusal.TheVariants.{TooLong}
use Rattle.jsp_model.specs.declared.step.Step.{Step}
use Rattle.jsp_model.specs.declared.step.Step.TheVariants as step
use Rattle.jsp_drive.specs.declared.hear.LineInput.{LineInput}
use Rattle.jsp_drive.specs.declared.line.Next.TheVariants as next
use Rattle.jsp_drive.specs.Line.{Unheard, IsNextOf}
use Rattle.jsp_drive.specs.Streams.{requests_of}
use Rattle.jsp_drive.specs.Giving.{Gave, GaveAll, FollowsStream}
use Rattle.jsp_closing.specs.declared.closed.LineReport.{LineReport}
use Rattle.jsp_closing.specs.Asking.{CanAsk, CanBe, CanGive, HasNext, HaveGiven, anything, asks_short, has_short_line, unasked, unasked_in}
use Rattle.jsp_closing.proofs.Continuing.{given_step, next_is, no_next}
use Rattle.jsp_closing.proofs.Places.{at_within, split_next}
use Rattle.jsp_closing.proofs.Rereading.{asks_unasked, requests_of-append, short_at}

-- ---- what a line gives next

-- who has a next step has a line
pub next_within : (s : ℕ) (lines : List Unheard) (asked : Step) → HasNext s lines asked → (1 ≤ s) × (s ≤ length lines)
next_within s lines asked h =
    let within = slice_get_within lines h.place h.line h.here in
    (omega (arith, h.session), omega (arith, h.session, within))

next_gave : (s : ℕ) (lines : List Unheard) (line : Unheard) (asked : Step) → slice_get lines (s - 1) ≡ Some line → (h : HasNext s lines asked) → Gave s h.bytes h.before line
next_gave s lines line asked at h =
    let there : slice_get lines (s - 1) ≡ Some h.line = ap (slice_get lines) (omega (arith, h.session)) ∙ h.here in
    let same : h.line ≡ line = cc (at, there) in
    subst (λ (u : Unheard). Gave s h.bytes h.before u) same h.gave

pub gives_next : (s : ℕ) (lines : List Unheard) (line after : Unheard) (x : LineInput) (asked : Step) → slice_get lines (s - 1) ≡ Some line
    → IsNextOf line (next.Input x) after → FollowsStream line (next.Input x) after → HasNext s lines asked → given_step s x ≡ asked
gives_next s lines line after x asked at answers follows h =
    next_is s h.bytes h.before h.more asked h.too_long x line after answers follows (next_gave s lines line asked at h) h.says

pub gives_no_more : (s : ℕ) (lines : List Unheard) (line after : Unheard) (asked : Step) → slice_get lines (s - 1) ≡ Some line
    → FollowsStream line next.More after → HasNext s lines asked → ⊥
gives_no_more s lines line after asked at follows h =
    no_next s h.bytes h.before h.more asked false h.too_long (follows s h.bytes h.before (next_gave s lines line asked at h)).1 h.says

pub gives_nothing : (s : ℕ) (lines : List Unheard) (line after : Unheard) (asked : Step) → slice_get lines (s - 1) ≡ Some line
    → FollowsStream line next.Closed after → HasNext s lines asked → ⊥
gives_nothing s lines line after asked at follows h =
    no_next s h.bytes h.before h.more asked true h.too_long (follows s h.bytes h.before (next_gave s lines line asked at h)).1 h.says

-- ---- a request, and a fault

-- what is a request but for what is asked in it is one
request_wanted : (s : ℕ) (rows : List ℕ) (wanted : Step) → unasked wanted ≡ step.Ask s anything rows → (asked : Request) × (wanted ≡ step.Ask s asked rows)
request_wanted s rows (step.Ask t asked ns) e = (asked, cc (e))
request_wanted s rows (step.Fault t id refusal) e = absurd (cc (e))
request_wanted s rows _ e = absurd (cc (e))

fault_wanted : (s : ℕ) (wanted : Step) → unasked wanted ≡ step.Fault s None TooLong → (id : Option ℕ) × (refusal : Refusal) × (wanted ≡ step.Fault s id refusal)
fault_wanted s (step.Ask t asked ns) e = absurd (cc (e))
fault_wanted s (step.Fault t id refusal) e = (id, refusal, cc (e))
fault_wanted s _ e = absurd (cc (e))

-- each is asked by its session
ask_asked : (s : ℕ) (asked : Request) (rows : List ℕ) → requests_of s (step.Ask s asked rows ∷ []) ≡ step.Ask s asked [] ∷ []
ask_asked s asked rows = rw (eq-eqb s s refl) refl

fault_asked : (s : ℕ) (id : Option ℕ) (refusal : Refusal) → requests_of s (step.Fault s id refusal ∷ []) ≡ step.Fault s id refusal ∷ []
fault_asked s id refusal = rw (eq-eqb s s refl) refl

request_next : (s : ℕ) (rows : List ℕ) (lines : List Unheard) (wanted : Step) → CanGive lines wanted (step.Ask s anything rows)
    → (asked : Request) × (wanted ≡ step.Ask s asked rows) × HasNext s lines (step.Ask s asked [])
request_next s rows lines wanted h =
    let w = request_wanted s rows wanted h.same in
    (w.0, w.1, h.asks s (step.Ask s w.0 []) (ap (λ (x : Step). requests_of s (x ∷ [])) w.1 ∙ ask_asked s w.0 rows))

fault_next : (s : ℕ) (lines : List Unheard) (wanted : Step) → CanGive lines wanted (step.Fault s None TooLong)
    → (id : Option ℕ) × (refusal : Refusal) × (wanted ≡ step.Fault s id refusal) × HasNext s lines (step.Fault s id refusal)
fault_next s lines wanted h =
    let w = fault_wanted s wanted h.same in
    (w.0, w.1, w.2, h.asks s (step.Fault s w.0 w.1) (ap (λ (x : Step). requests_of s (x ∷ [])) w.2 ∙ fault_asked s w.0 w.1))

-- so the line has a next step
pub request_has_next : (s : ℕ) (rows : List ℕ) (lines : List Unheard) → (wanted : Step) × CanGive lines wanted (step.Ask s anything rows) → (asked : Step) × HasNext s lines asked
request_has_next s rows lines h = let w = request_next s rows lines h.0 h.1 in (step.Ask s w.0 [], w.2)

pub fault_has_next : (s : ℕ) (lines : List Unheard) → (wanted : Step) × CanGive lines wanted (step.Fault s None TooLong) → (asked : Step) × HasNext s lines asked
fault_has_next s lines h = let w = fault_next s lines h.0 h.1 in (step.Fault s w.0 w.1, w.3)

-- and what it gives is what is asked
pub request_is : (s : ℕ) (rows : List ℕ) (lines : List Unheard) (asked : Request) (wanted : Step)
    → ((x : Step) → HasNext s lines x → step.Ask s asked [] ≡ x) → CanGive lines wanted (step.Ask s anything rows) → wanted ≡ step.Ask s asked rows
request_is s rows lines asked wanted given h =
    let w = request_next s rows lines wanted h in
    let same : asked ≡ w.0 = cc (given (step.Ask s w.0 []) w.2) in
    w.1 ∙ ap (λ a. step.Ask s a rows) (sym same)

pub fault_is : (s : ℕ) (lines : List Unheard) (id : Option ℕ) (refusal : Refusal) (wanted : Step)
    → ((x : Step) → HasNext s lines x → step.Fault s id refusal ≡ x) → CanGive lines wanted (step.Fault s None TooLong) → wanted ≡ step.Fault s id refusal
fault_is s lines id refusal wanted given h =
    let w = fault_next s lines wanted h in
    w.2 ∙ sym (given (step.Fault s w.0 w.1) w.3)

-- a request is no fault
pub request_no_fault : (s : ℕ) (rows : List ℕ) (lines : List Unheard) (id : Option ℕ) (refusal : Refusal)
    → ((x : Step) → HasNext s lines x → step.Fault s id refusal ≡ x) → (wanted : Step) × CanGive lines wanted (step.Ask s anything rows) → ⊥
request_no_fault s rows lines id refusal given h =
    let w = request_next s rows lines h.0 h.1 in
    absurd (cc (given (step.Ask s w.0 []) w.2))

pub fault_no_request : (s : ℕ) (lines : List Unheard) (asked : Request)
    → ((x : Step) → HasNext s lines x → step.Ask s asked [] ≡ x) → (wanted : Step) × CanGive lines wanted (step.Fault s None TooLong) → ⊥
fault_no_request s lines asked given h =
    let w = fault_next s lines h.0 h.1 in
    absurd (cc (given (step.Fault s w.0 w.1) w.3))

-- ---- one step

-- no other step is one by which nobody asks
plain : (wanted x : Step) → ((s : ℕ) (asked : Request) (rows : List ℕ) → x ≡ step.Ask s asked rows → ⊥) → ((s : ℕ) (id : Option ℕ) (refusal : Refusal) → x ≡ step.Fault s id refusal → ⊥)
    → unasked wanted ≡ x → wanted ≡ x
plain (step.Ask s asked rows) x no_ask no_fault same = absurd (no_ask s anything rows (sym same))
plain (step.Fault s id refusal) x no_ask no_fault same = absurd (no_fault s None TooLong (sym same))
plain _ x no_ask no_fault same = same

pub other_is : (x wanted : Step) → ((s : ℕ) (asked : Request) (rows : List ℕ) → x ≡ step.Ask s asked rows → ⊥) → ((s : ℕ) (id : Option ℕ) (refusal : Refusal) → x ≡ step.Fault s id refusal → ⊥)
    → unasked wanted ≡ unasked x → wanted ≡ x
other_is (step.Ask s asked rows) wanted no_ask no_fault same = absurd (no_ask s asked rows refl)
other_is (step.Fault s id refusal) wanted no_ask no_fault same = absurd (no_fault s id refusal refl)
other_is x wanted no_ask no_fault same = plain wanted x no_ask no_fault same

-- whether a session asks by it whose line isn't whole doesn't depend on what is asked
short_again : (reports : List LineReport) (x : Step) → asks_short reports (unasked_in reports x) ≡ asks_short reports x
short_again reports x = at (asks_short reports x)
  where
    at : (b : Bool) → asks_short reports (if b then x else unasked x) ≡ asks_short reports x
    at true = refl
    at false = asks_unasked reports x

short_alike : (reports : List LineReport) (wanted x : Step) → unasked_in reports wanted ≡ unasked_in reports x → asks_short reports wanted ≡ asks_short reports x
short_alike reports wanted x same = sym (short_again reports wanted) ∙ ap (asks_short reports) same ∙ short_again reports x

-- then it is the step itself
pub short_is : (reports : List LineReport) (lines : List Unheard) (wanted x : Step) → asks_short reports x ≡ true → CanAsk reports lines wanted x → wanted ≡ x
short_is reports lines wanted x short h =
    let short' : asks_short reports wanted ≡ true = short_alike reports wanted x h.same ∙ short in
    let left : unasked_in reports wanted ≡ wanted = rw short' refl in
    let right : unasked_in reports x ≡ x = rw short refl in
    sym left ∙ h.same ∙ right

-- who asks by a step
asker : (reports : List LineReport) (x : Step) (s : ℕ) (asked : Step) → requests_of s (x ∷ []) ≡ asked ∷ [] → has_short_line reports s ≡ asks_short reports x
asker reports (step.Ask t a rows) s asked e = elim (cases_Bool (eqb t s)) [
  | inl same ↦ ap (has_short_line reports) (sym (eqb-true t s same))
  | inr other ↦ absurd (cc (rw other at e))
]
asker reports (step.Fault t id refusal) s asked e = elim (cases_Bool (eqb t s)) [
  | inl same ↦ ap (has_short_line reports) (sym (eqb-true t s same))
  | inr other ↦ absurd (cc (rw other at e))
]
asker reports _ s asked e = absurd (cc (e))

-- else its line gives what is asked
pub whole_can_give : (reports : List LineReport) (lines : List Unheard) (wanted x : Step) → asks_short reports x ≡ false → CanAsk reports lines wanted x → CanGive lines wanted x
whole_can_give reports lines wanted x whole h =
    let whole' : asks_short reports wanted ≡ false = short_alike reports wanted x h.same ∙ whole in
    let left : unasked_in reports wanted ≡ unasked wanted = rw whole' refl in
    let right : unasked_in reports x ≡ unasked x = rw whole refl in
    record {
      same = sym left ∙ h.same ∙ right;
      asks = λ s asked e. h.asks s asked e (asker reports wanted s asked e ∙ whole');
    }

-- ---- all steps

-- behind the steps that were read again there is one like the next
pub next_wanted : (f : Step → Step) (history steps asked left : List Step) (n : ℕ) (x : Step)
    → map f history ≡ map f steps → length asked ≡ n → history ≡ asked ++ left → n < length steps → x ≡ get_or steps n x
    → (wanted : Step) × (more : List Step) × (left ≡ wanted ∷ more) × (f wanted ≡ f x)
next_wanted f history steps asked left n x same count is within at =
    let before = take n steps in
    let rest = drop (n + 1) steps in
    let first_part : map f history ≡ map f asked ++ map f left = ap (map f) is ∙ map-append f asked left in
    let second_part : map f steps ≡ map f before ++ f x ∷ map f rest = ap (map f) (split_next steps n x within at) ∙ map-append f before (x ∷ rest) in
    let left_is : drop n (map f history) ≡ map f left = ap (drop n) first_part ∙ drop_at (map f asked) (map f left) n (length-map asked f ∙ count) in
    let right_is : drop n (map f steps) ≡ f x ∷ map f rest = ap (drop n) second_part ∙ drop_at (map f before) (f x ∷ map f rest) n (length-map before f ∙ length-take-le n steps (omega (arith, within))) in
    first left (sym left_is ∙ ap (drop n) same ∙ right_is)
  where
    first : (ys : List Step) → map f ys ≡ f x ∷ map f (drop (n + 1) steps) → (wanted : Step) × (more : List Step) × (ys ≡ wanted ∷ more) × (f wanted ≡ f x)
    first [] e = absurd (cc (e))
    first (y ∷ ys) e = (y, ys, refl, cc (e))

-- as many were read again as there were
pub as_many : (f : Step → Step) (asked yielded : List Step) → map f asked ≡ map f yielded → length asked ≡ length yielded
as_many f asked yielded same = sym (length-map asked f) ∙ ap length same ∙ length-map yielded f

-- and none behind the last
pub no_more_wanted : (f : Step → Step) (history steps asked left : List Step) → map f history ≡ map f steps → map f asked ≡ map f steps → history ≡ asked ++ left → history ≡ asked
no_more_wanted f history steps asked left same done is =
    none left (append_cancel_left (map f asked) (map f left) []
    (sym (map-append f asked left) ∙ ap (map f) (sym is) ∙ same ∙ sym done ∙ sym (append-nil (map f asked)))) is
  where
    none : (ys : List Step) → map f ys ≡ [] → history ≡ asked ++ ys → history ≡ asked
    none [] e h = h ∙ append-nil asked
    none (y ∷ ys) e h = absurd (cc (e))

-- what is asked by the next step and behind it
asked_behind : (s : ℕ) (asked left : List Step) (wanted x : Step) → requests_of s (wanted ∷ []) ≡ x ∷ [] → requests_of s (asked ++ wanted ∷ left) ≡ requests_of s asked ++ x ∷ requests_of s left
asked_behind s asked left wanted x e =
    requests_of-append s asked (wanted ∷ left)
    ∙ ap (λ ys. requests_of s asked ++ ys) (requests_of-append s (wanted ∷ []) left ∙ ap (λ ys. ys ++ requests_of s left) e)

-- a step of a history that the lines can have asked
pub can_ask : (reports : List LineReport) (lines : List Unheard) (history steps asked left : List Step) (wanted x : Step)
    → HaveGiven reports lines asked → CanBe reports history steps → history ≡ asked ++ wanted ∷ left → unasked_in reports wanted ≡ unasked_in reports x → CanAsk reports lines wanted x
can_ask reports lines history steps asked left wanted x given can is same = record {
  same = same;
  asks = λ s y e short. (
      let all : requests_of s history ≡ requests_of s asked ++ y ∷ requests_of s left = ap (requests_of s) is ∙ asked_behind s asked left wanted y e in
      let within : (1 ≤ s) × (s ≤ length reports) = elim (can.within s) [
        | inl none ↦ absurd (omega (arith, ap length (sym none ∙ all), length-append (requests_of s asked) (y ∷ requests_of s left)))
        | inr some ↦ some
      ] in
      let place = s - 1 in
      let session : s ≡ place + 1 = omega (arith, within.0) in
      let at = at_within reports place (omega (arith, within.0, within.1)) in
      let there = at_within lines place (omega (arith, within.0, within.1, given.count)) in
      let whole : at.0.is_whole ≡ true = not-false at.0.is_whole (sym (short_at reports s at.0 (λ zero'. omega (arith, within.0, zero')) at.1) ∙ short) in
      let gave = given.gave place at.0 there.0 at.1 there.1 whole in
      let says = can.asks place at.0 at.1 whole in
      let says' : GaveAll s at.0.read.items (requests_of s history ++ says.0) says.1 = subst (λ n. GaveAll n at.0.read.items (requests_of n history ++ says.0) says.1) (sym session) says.2 in
      record {
        place = place;
        session = session;
        line = there.0;
        here = there.1;
        bytes = at.0.read.items;
        before = requests_of s asked;
        more = requests_of s left ++ says.0;
        too_long = says.1;
        gave = subst (λ n. Gave n at.0.read.items (requests_of n asked) there.0) (sym session) gave;
        says = subst (λ ys. GaveAll s at.0.read.items ys says.1) (ap (λ ys. ys ++ says.0) all ∙ append_assoc (requests_of s asked) (y ∷ requests_of s left) says.0) says';
      });
}
