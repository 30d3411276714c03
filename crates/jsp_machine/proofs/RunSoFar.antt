-- One step more of a run.
use Rattle.std.proofs.Common.{◌≡◌, ℕ, zero, suc, ◌+◌, ◌<◌, true, false, List, [], ◌∷◌, ◌++◌, length, take, get_or, Some, refl, ap, sym, ◌∙◌, arith, append_assoc}
use Rattle.std.proofs.lemmas.List.{take_more, append-nil}
use Rattle.std.proofs.lemmas.Bool.{and_parts}
use Rattle.jsp_model.specs.declared.state.State.{State}
use Rattle.jsp_model.specs.declared.step.Step.{Step}
use Rattle.jsp_model.specs.Answers.{Saying, said}
use Rattle.jsp_model.specs.Steps.{is_legal, next}
use Rattle.jsp_model.specs.Runs.{is_run, state_after, said_in, first_illegal}
use Rattle.jsp_machine.specs.declared.replaying.ReplayFault.{ReplayFault}
use Rattle.jsp_machine.specs.declared.replaying.ReplayFault.TheVariants.{Illegal, NoMemory}
use Rattle.jsp_machine.specs.Replay.{FailsAt, StopsAt}

state_after-append : (st : State) (xs ys : List Step) → state_after st (xs ++ ys) ≡ state_after (state_after st xs) ys
state_after-append st [] ys = refl
state_after-append st (x ∷ xs) ys = state_after-append (next st x) xs ys

said_in-append : (st : State) (xs ys : List Step) → said_in st (xs ++ ys) ≡ said_in st xs ++ said_in (state_after st xs) ys
said_in-append st [] ys = refl
said_in-append st (x ∷ xs) ys = ap (λ w. said st x ++ w) (said_in-append (next st x) xs ys) ∙ sym (append_assoc (said st x) (said_in (next st x) xs) (said_in (state_after (next st x) xs) ys))

run_more : (st : State) (xs : List Step) (x : Step) → is_run st xs ≡ true → is_legal (state_after st xs) x ≡ true → is_run st (xs ++ x ∷ []) ≡ true
run_more st [] x run legal = rw legal refl
run_more st (y ∷ xs) x run legal =
    let parts = and_parts (is_legal st y) (is_run (next st y) xs) run in
    rw (parts.0, run_more (next st y) xs x parts.1 legal) refl

-- the steps so far are a run to this state, and this is what they say
pub record Replaying (base : State) (done : List Step) (state : State) (told : List Saying) : Type 0 where
  pub run : is_run base done ≡ true
  pub state_is : state ≡ state_after base done
  pub told_is : told ≡ said_in base done

pub replaying_more : (base state now : State) (steps : List Step) (i : ℕ) (x : Step) (told told' : List Saying) → i < length steps → x ≡ get_or steps i x → Replaying base (take i steps) state told
    → is_legal state x ≡ true → told' ≡ told ++ said state x → now ≡ next state x → Replaying base (take (i + 1) steps) now told'
replaying_more base state now steps i x told told' lt is h legal says made =
    let more : take (i + 1) steps ≡ take i steps ++ x ∷ [] = take_more steps i x lt ∙ ap (λ (w : Step). take i steps ++ w ∷ []) (sym is) in
    let legal' : is_legal (state_after base (take i steps)) x ≡ true = ap (λ (s : State). is_legal s x) (sym h.state_is) ∙ legal in
    rw more (record {
      run = run_more base (take i steps) x h.run legal';
      state_is = made ∙ (ap (λ (s : State). next s x) h.state_is ∙ sym (state_after-append base (take i steps) (x ∷ [])));
      told_is = says ∙ (ap (λ (w : List Saying). w ++ said state x) h.told_is ∙ (ap (λ (s : State). said_in base (take i steps) ++ said s x) h.state_is
          ∙ (ap (λ (w : List Saying). said_in base (take i steps) ++ w) (sym (append-nil (said (state_after base (take i steps)) x))) ∙ sym (said_in-append base (take i steps) (x ∷ [])))));
    })

first_of : (st : State) (steps : List Step) (i : ℕ) (d : Step) → i < length steps → is_run st (take i steps) ≡ true → is_legal (state_after st (take i steps)) (get_or steps i d) ≡ false → first_illegal st steps ≡ Some i
first_of st [] i d lt run no_ = absurd (omega arith)
first_of st (x ∷ steps) zero d lt run illegal = rw illegal refl
first_of st (x ∷ steps) (suc i) d lt run illegal =
    let parts = and_parts (is_legal st x) (is_run (next st x) (take i steps)) run in
    let rest = first_of (next st x) steps i d (omega arith) parts.1 illegal in
    let one : i + 1 ≡ suc i = omega arith in
    rw (parts.0, rest) (ap Some one)

-- the first illegal step is found
pub replaying_stops : (base state : State) (steps : List Step) (i : ℕ) (x : Step) (told : List Saying) → i < length steps → x ≡ get_or steps i x → Replaying base (take i steps) state told → is_legal state x ≡ false → first_illegal base steps ≡ Some i
replaying_stops base state steps i x told lt is h illegal =
    first_of base steps i x lt h.run (ap (λ (s : Step). is_legal (state_after base (take i steps)) s) (sym is) ∙ (ap (λ (s : State). is_legal s x) (sym h.state_is) ∙ illegal))

-- and so the fault of that step is the fault of all the steps
pub replaying_fails : (base state : State) (steps : List Step) (i : ℕ) (x : Step) (told : List Saying) (e : ReplayFault) → i < length steps → x ≡ get_or steps i x → Replaying base (take i steps) state told → StopsAt e i (is_legal state x) → FailsAt e (first_illegal base steps)
replaying_fails base state steps i x told (Illegal n) lt is h stops = replaying_stops base state steps i x told lt is h stops.1 ∙ ap Some (sym stops.0)
replaying_fails base state steps i x told NoMemory lt is h stops = tt
