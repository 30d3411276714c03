-- What the worked runs are written with: where they start, jobs, requests, and how a run is changed in one place.
use Rattle.std.specs.Prelude.{◌≡◌, refl, ℕ, ◌+◌, pos, Bool, true, List, [], ◌∷◌, ◌++◌, map, flat_map, take, drop, Option, Some, None, codes}
use Rattle.std.proofs.Common.{subst}
use Rattle.jsp_types.specs.declared.value.Kind.TheVariants as kind
use Rattle.jsp_types.specs.declared.value.Value.TheVariants as value
use Rattle.jsp_types.specs.declared.entry.Raw.{Raw}
use Rattle.jsp_types.specs.declared.entry.Entry.{Entry}
use Rattle.jsp_wire.specs.declared.ask.Ask.{Ask}
use Rattle.jsp_wire.specs.declared.ask.Ask.TheVariants as ask
use Rattle.jsp_wire.specs.declared.ask.Write.{Write}
use Rattle.jsp_wire.specs.declared.ask.WriteAll.{WriteAll}
use Rattle.jsp_wire.specs.declared.ask.Search.{Search}
use Rattle.jsp_wire.specs.declared.ask.TakeMany.{TakeMany}
use Rattle.jsp_wire.specs.declared.ask.Notify.{Notify}
use Rattle.jsp_wire.specs.declared.ask.Contents.{Contents}
use Rattle.jsp_lease.specs.declared.item.Rank.{Rank}
use Rattle.jsp_reply.specs.declared.reply.Reply.{Reply}
use Rattle.jsp_model.specs.declared.state.State.{State}
use Rattle.jsp_model.specs.declared.step.Step.{Step}
use Rattle.jsp_model.specs.declared.step.Step.TheVariants as step
use Rattle.jsp_model.specs.Lookup.{empty}
use Rattle.jsp_model.specs.Answers.{Saying, said}
use Rattle.jsp_model.specs.Steps.{is_legal, next}
use Rattle.jsp_model.specs.Runs.{Moment, moments, IsRun, said_in, first_illegal}

-- ---- runs

-- a step, and what is said in it
abbrev pub Line : Type 0
Line = Step × List Saying

abbrev pub steps_of : List Line → List Step
steps_of lines = map (λ (l : Line). l.0) lines

-- each step is legal where it stands, and says just what stands beside it
abbrev pub GoesFrom : State → List Line → Type 0
GoesFrom st lines =
    map {B = Bool × List Saying} (λ (m : Moment). (is_legal m.state m.step, said m.state m.step)) (moments st (steps_of lines))
    ≡ map {B = Bool × List Saying} (λ (l : Line). (true, l.1)) lines

-- two spaces, and nothing done yet
abbrev pub start : State
start = empty (codes "a" ∷ codes "b" ∷ [])

abbrev pub Goes : List Line → Type 0
Goes lines = GoesFrom start lines

-- the first step that isn't legal stands at this place, counted from 0
abbrev pub FailsAtFrom : State → ℕ → List Step → Type 0
FailsAtFrom st n steps = first_illegal st steps ≡ Some n

abbrev pub FailsAt : ℕ → List Step → Type 0
FailsAt n steps = FailsAtFrom start n steps

-- another step at this place
abbrev pub instead : ℕ → Step → List Line → List Step
instead n s lines = take n (steps_of lines) ++ s ∷ drop (n + 1) (steps_of lines)

-- one step more, before the one at this place
abbrev pub before : ℕ → Step → List Line → List Step
before n s lines = take n (steps_of lines) ++ s ∷ drop n (steps_of lines)

-- without the step at this place
abbrev pub without : ℕ → List Line → List Step
without n lines = take n (steps_of lines) ++ drop (n + 1) (steps_of lines)

-- ---- jobs

abbrev pub raw_job : ℕ → Raw
raw_job k = record { class = codes "Job"; fields = (codes "k", value.Int (pos k)) ∷ [] }

abbrev pub job : ℕ → Entry
job k = record { class = codes "Job"; fields = (codes "k", value.Int (pos k)) ∷ (codes "who", value.Null) ∷ [] }

abbrev pub any_job : Option Raw
any_job = Some (record { class = codes "Job"; fields = [] })

-- entries that are refused

abbrev pub undeclared : Raw
undeclared = record { class = codes "Nope"; fields = [] }

abbrev pub with_a_text_for_a_number : Raw
with_a_text_for_a_number = record { class = codes "Job"; fields = (codes "k", value.Text []) ∷ [] }

abbrev pub with_a_field_too_many : Raw
with_a_field_too_many = record { class = codes "Job"; fields = (codes "z", value.Null) ∷ [] }

abbrev pub declare_job : Ask
declare_job = ask.Declare (record { class = codes "Job"; parent = None; fields = (codes "k", Some kind.Int) ∷ (codes "who", Some kind.Text) ∷ [] })

-- ---- requests: in space a, under no transaction, for 1000 ms or at once

abbrev pub one_job : ℕ → Write
one_job k = record { space = codes "a"; entry = raw_job k; lease = pos 1000; txn = None }

abbrev pub for_job : ℕ → Search
for_job k = record { space = codes "a"; template = Some (raw_job k); timeout = pos 0; txn = None }

abbrev pub jobs : List ℕ → WriteAll
jobs ks = record { space = codes "a"; entries = map raw_job ks; lease = pos 1000; txn = None }

abbrev pub for_jobs : List ℕ → ℕ → TakeMany
for_jobs ks most = record { space = codes "a"; templates = map (λ k. Some (raw_job k)) ks; most = most; timeout = pos 0; txn = None }

abbrev pub on_jobs : List ℕ → Notify
on_jobs handback = record { space = codes "a"; template = any_job; lease = pos 5000; handback = handback; txn = None }

abbrev pub all_jobs : Contents
all_jobs = record { space = codes "a"; template = any_job; lease = pos 1000; txn = None }

-- ---- steps, and what is said

-- a request that is given no rows
abbrev pub asks : ℕ → ℕ → Ask → Step
asks s id a = step.Ask s (record { id = id; ask = a }) []

-- a request that is given these rows
abbrev pub gets : ℕ → ℕ → Ask → List ℕ → Step
gets s id a rows = step.Ask s (record { id = id; ask = a }) rows

-- the end of what has this number
abbrev pub ends : Rank → ℕ → ℕ → Step
ends rank number end = step.Due (record { end = end; rank = rank; number = number })

-- one answer, to this session
abbrev pub to : ℕ → Reply → List Saying
to s reply = (s, reply) ∷ []

-- ---- what such a run is in the words of the definitions

-- the first line holds, and so do the others from the next state on
pub first_holds : (st : State) (l : Line) (lines : List Line) → GoesFrom st (l ∷ lines)
    → (is_legal st l.0 ≡ true) × (said st l.0 ≡ l.1) × GoesFrom (next st l.0) lines
first_holds st l lines p =
    let first : ◌≡◌ {A = Bool × List Saying} (is_legal st l.0, said st l.0) (true, l.1) = cc p in
    (subst (λ (x : Bool × List Saying). is_legal st l.0 ≡ x.0) first refl, subst (λ (x : Bool × List Saying). said st l.0 ≡ x.1) first refl, cc p)

pub goes_is_run : (st : State) (lines : List Line) → GoesFrom st lines → IsRun st (steps_of lines)
goes_is_run st [] p = refl
goes_is_run st (l ∷ lines) p =
    let holds = first_holds st l lines p in
    rw (holds.0) (goes_is_run (next st l.0) lines holds.2)

-- all that is said is what stands in the lines, in their order
pub goes_says : (st : State) (lines : List Line) → GoesFrom st lines → said_in st (steps_of lines) ≡ flat_map (λ (l : Line). l.1) lines
goes_says st [] p = refl
goes_says st (l ∷ lines) p =
    let holds = first_holds st l lines p in
    rw (holds.1, goes_says (next st l.0) lines holds.2) refl
