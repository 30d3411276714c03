-- Who asks in a run and who is told something in it has a number up to the last session's.
use Rattle.std.proofs.Common.{◌≡◌, ◌≤◌, ℕ, ◌⊎◌, Bool, true, List, [], ◌∷◌, ◌++◌, eqb, refl, ap, ◌∙◌, inl, inr, arith}
use Rattle.std.specs.Prelude.{◌&&◌, is_none}
use Rattle.std.proofs.lemmas.Bool.{and_parts, cases_Bool, eqb-true}
use Rattle.jsp_model.specs.declared.state.State.{State}
use Rattle.jsp_model.specs.declared.step.Step.{Step}
use Rattle.jsp_model.specs.declared.step.Step.TheVariants as step
use Rattle.jsp_model.specs.Answers.{Saying, said, all_said}
use Rattle.jsp_model.specs.Due.{due}
use Rattle.jsp_model.specs.Lookup.{empty, is_open}
use Rattle.jsp_model.specs.Quiet.{are_quiet}
use Rattle.jsp_model.specs.Refusals.{refusal}
use Rattle.jsp_model.specs.Requests.{rows_asked}
use Rattle.jsp_model.specs.Runs.{IsRun, is_run, said_in, state_after}
use Rattle.jsp_model.specs.Steps.{has_its_rows, is_fault, is_legal, next}
use Rattle.jsp_model.specs.Touches.{touches}
use Rattle.jsp_drive.specs.Streams.{requests_of}
use Rattle.jsp_laws.proofs.Lists.{Each, each_append, each_kept, each_weaker}
use Rattle.jsp_laws.proofs.Made.{each_true}
use Rattle.jsp_closing.specs.Within.{IsWithin}
use Rattle.jsp_closing.proofs.Numbered.{AreNumbered, keeps_next, open_within}
use Rattle.jsp_closing.proofs.Rereading.{requests_of-append}

-- a step of a run and those behind it
legal_first : (st : State) (x : Step) (steps : List Step) → IsRun st (x ∷ steps) → (is_legal st x ≡ true) × IsRun (next st x) steps
legal_first st x steps run = and_parts (is_legal st x) (is_run (next st x) steps) run

-- the last session is never an earlier one
pub rises : (st : State) (steps : List Step) → IsRun st steps → st.last_session ≤ (state_after st steps).last_session
rises st [] run = omega arith
rises st (x ∷ steps) run =
    let (legal, rest) = legal_first st x steps run in
    let one = (keeps_next st x legal).rises in
    let more = rises (next st x) steps rest in
    omega (arith, one, more)

within_more : (s few more : ℕ) → few ≤ more → IsWithin few s → IsWithin more s
within_more s few more le h = (h.0, omega (arith, h.1, le))

-- ---- who is told

told_now : (st : State) (x : Step) → AreNumbered st → Each (λ (a : Saying). IsWithin st.last_session a.0) (said st x)
unfolding said
told_now st x h = each_kept (λ (a : Saying). Unit {0}) (λ (a : Saying). IsWithin st.last_session a.0) (λ a. is_open st a.0) (λ a opened u. open_within st a.0 h opened) (all_said st x) (each_true (all_said st x))

pub told_within : (st : State) (steps : List Step) → IsRun st steps → AreNumbered st → Each (λ (a : Saying). IsWithin (state_after st steps).last_session a.0) (said_in st steps)
told_within st [] run h = tt
told_within st (x ∷ steps) run h =
    let (legal, rest) = legal_first st x steps run in
    let last = (state_after (next st x) steps).last_session in
    let le : st.last_session ≤ last = rises st (x ∷ steps) run in
    each_append (λ (a : Saying). IsWithin last a.0) (said st x) (said_in (next st x) steps)
    (each_weaker (λ (a : Saying). IsWithin st.last_session a.0) (λ (a : Saying). IsWithin last a.0) (λ a w. within_more a.0 st.last_session last le w) (said st x) (told_now st x h))
    (told_within (next st x) steps rest ((keeps_next st x legal).numbered h))

-- ---- who asks

first_of : (a b c d : Bool) → (a && b && c && d) ≡ true → a ≡ true
first_of a b c d h = (and_parts a b (and_parts (a && b) c (and_parts (a && b && c) d h).0).0).0

-- who asks by a legal step is open
asking_open : (st : State) (x : Step) (s : ℕ) → is_legal st x ≡ true → (requests_of s (x ∷ []) ≡ []) ⊎ (is_open st s ≡ true)
unfolding is_legal
asking_open st (step.Ask t asked rows) s legal =
    let opened : is_open st t ≡ true = first_of (is_open st t) (is_none (due st)) (are_quiet st (touches st (step.Ask t asked rows))) (has_its_rows st t asked.id rows (refusal st t asked.id asked.ask) (rows_asked asked.ask)) legal in
    elim (cases_Bool (eqb t s)) [
      | inl same ↦ inr (rw (← eqb-true t s same) opened)
      | inr other ↦ inl (rw other refl)
    ]
asking_open st (step.Fault t id r) s legal =
    let opened = (and_parts (is_open st t) (is_fault r) legal).0 in
    elim (cases_Bool (eqb t s)) [
      | inl same ↦ inr (rw (← eqb-true t s same) opened)
      | inr other ↦ inl (rw other refl)
    ]
asking_open st (step.Open t) s legal = inl refl
asking_open st (step.Shut t) s legal = inl refl
asking_open st (step.Clock t) s legal = inl refl
asking_open st (step.Grant n rows) s legal = inl refl
asking_open st (step.Empty n) s legal = inl refl
asking_open st (step.Tell n) s legal = inl refl
asking_open st (step.Due item) s legal = inl refl
asking_open st (step.Vote n space) s legal = inl refl
asking_open st (step.Decide n commits) s legal = inl refl
asking_open st (step.HandOut t n) s legal = inl refl

pub asking_within : (st : State) (steps : List Step) → IsRun st steps → AreNumbered st → (s : ℕ) → (requests_of s steps ≡ []) ⊎ IsWithin (state_after st steps).last_session s
asking_within st [] run h s = inl refl
asking_within st (x ∷ steps) run h s =
    let (legal, rest) = legal_first st x steps run in
    let last = (state_after (next st x) steps).last_session in
    elim (asking_open st x s legal) [
      | inr opened ↦ inr (within_more s st.last_session last (rises st (x ∷ steps) run) (open_within st s h opened))
      | inl none ↦ elim (asking_within (next st x) steps rest ((keeps_next st x legal).numbered h) s) [
        | inl no_more ↦ inl (requests_of-append s (x ∷ []) steps ∙ ap (λ xs. xs ++ requests_of s steps) none ∙ no_more)
        | inr later ↦ inr later
      ]
    ]

-- before the first step there is none
pub none_numbered : (spaces : List (List ℕ)) → AreNumbered (empty spaces)
none_numbered spaces = tt
