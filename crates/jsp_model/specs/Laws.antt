-- Laws of every run from an empty state. A moment is a state of the run, and the step that is made in it.
use Rattle.std.specs.Prelude.{◌≡◌, ◌≢◌, ℕ, ◌+◌, ◌<◌, ◌≤◌, Bool, false, not, if◌then◌else◌, ◌&&◌, ◌||◌, ◌==◌, List, [], ◌∷◌, ◌++◌, map, take, filter, flat_map, count_by, Option, Some, None, is_some, is_none, option_map, option_and_then, slice_get, IsTrue, IsFalse, Contains}
use Rattle.std.specs.List.{list_any, list_all, last_or}
use Rattle.std.specs.Option.{option_map_or}
use Rattle.jsp_types.specs.Matching.{matches}
use Rattle.jsp_wire.specs.declared.ask.Ask.{Ask}
use Rattle.jsp_wire.specs.declared.ask.Ask.TheVariants as ask
use Rattle.jsp_model.specs.declared.state.State.{State}
use Rattle.jsp_model.specs.declared.state.Blocked.{Blocked}
use Rattle.jsp_model.specs.declared.state.Joined.{Joined}
use Rattle.jsp_model.specs.declared.step.Step.{Step}
use Rattle.jsp_model.specs.declared.step.Step.TheVariants as step
use Rattle.jsp_model.specs.Lookup.{named, contains, is_caller, is_living, joined_of, joined_at, crash_count, blocked_of, registration_of, set_of}
use Rattle.jsp_model.specs.Sight.{is_take, readable}
use Rattle.jsp_model.specs.Refusals.{refusal, is_prepared}
use Rattle.jsp_model.specs.Requests.{rows_asked, as_blocked, place_of}
use Rattle.jsp_model.specs.Changes.{vote_of, page_of, is_last_page}
use Rattle.jsp_model.specs.Steps.{next, is_vote_to_commit}
use Rattle.jsp_model.specs.Runs.{Moment, moments, states}

-- ---- what a step gives, and to whom

-- the request for rows that is answered or blocks: the one that is asked, or the blocked one that is granted
abbrev pub request_of : Moment → Option Blocked
request_of m = at m.state m.step
  where
    at : State → Step → Option Blocked
    at st (step.Ask s asked ns) = option_map (as_blocked st s asked.id) (rows_asked asked.ask)
    at st (step.Grant n ns) = blocked_of st n
    at st _ = None

-- the rows that stand in the step
abbrev pub given : Step → List ℕ
given (step.Ask s asked ns) = ns
given (step.Grant n ns) = ns
given _ = []

abbrev pub takes : Moment → ℕ → Bool
takes m n = contains (given m.step) n && option_map_or (λ b. is_take b.form) (request_of m) false

abbrev pub next_asked : Ask → Option (ℕ × ℕ)
next_asked (ask.Next set most) = Some (named set, most)
next_asked _ = None

-- the match set whose next page is asked for and not refused, and the most rows that it is to show
abbrev pub page_asked : Moment → Option (ℕ × ℕ)
page_asked m = at m.state m.step
  where
    at : State → Step → Option (ℕ × ℕ)
    at st (step.Ask s asked ns) = if is_none (refusal st s asked.id asked.ask) then next_asked asked.ask else None
    at st _ = None

abbrev pub page_rows : Moment → List ℕ
page_rows m = option_map_or (λ p. map (λ r. r.number) (page_of m.state p.0 p.1)) (page_asked m) []

-- the row of the event that is told
abbrev pub told : Moment → List ℕ
told m = at m.state m.step
  where
    at : State → Step → List ℕ
    at st (step.Tell n) = option_map_or (λ r. take 1 r.owed) (registration_of st n) []
    at st _ = []

abbrev pub shows : Moment → ℕ → Bool
shows m n = contains (given m.step ++ page_rows m ++ told m) n

abbrev pub listener : Moment → Option ℕ
listener m = at m.state m.step
  where
    at : State → Step → Option ℕ
    at st (step.Tell n) = option_and_then (λ r. r.transaction) (registration_of st n)
    at st _ = None

-- the transaction to which the step shows rows, or none
abbrev pub viewer : Moment → Option ℕ
viewer m =
    if is_some (request_of m) then option_and_then (λ b. b.transaction) (request_of m)
    else if is_some (page_asked m) then option_and_then (λ p. option_and_then (λ s. s.transaction) (set_of m.state p.0)) (page_asked m)
    else listener m

-- ---- ends and votes

abbrev pub commits : ℕ → Moment → Bool
commits x m = at m.step
  where
    at : Step → Bool
    at (step.Decide y c) = c && y == x
    at _ = false

-- the transaction stands before the step, and not after it
abbrev pub ends : ℕ → Moment → Bool
ends x m = is_living m.state x && not (is_living (next m.state m.step) x)

abbrev pub aborts : ℕ → Moment → Bool
aborts x m = ends x m && not (commits x m)

abbrev pub votes : ℕ → ℕ → Moment → Bool
votes x space m = at m.step
  where
    at : Step → Bool
    at (step.Vote y p) = y == x && p == space
    at _ = false

abbrev pub votes_prepared : ℕ → ℕ → Moment → Bool
votes_prepared x space m = votes x space m && option_map_or (λ j. is_prepared (Some (vote_of m.state x j))) (joined_at m.state x space) false

-- a reset of the space is answered Done
abbrev pub resets : ℕ → Moment → Bool
resets space m = at m.state m.step
  where
    of : State → Ask → Bool
    of st (ask.Reset name) = place_of st name == space
    of st _ = false

    at : State → Step → Bool
    at st (step.Ask s asked ns) = is_none (refusal st s asked.id asked.ask) && of st asked.ask
    at st _ = false

-- a row, a registration, a blocked request or a match set bears the transaction
abbrev pub bears : State → ℕ → Bool
bears st x =
    list_any (λ r. is_caller r.writer x || is_caller r.taker x || contains r.readers x) st.rows
    || list_any (λ r. is_caller r.transaction x) st.registrations
    || list_any (λ b. is_caller b.transaction x) st.blocked
    || list_any (λ m. is_caller m.transaction x) st.sets

-- ---- the laws

-- the i-th moment of the run
abbrev pub At : State → List Step → ℕ → Moment → Type 0
At st steps i m = slice_get (moments st steps) i ≡ Some m

-- some moment between two others, at which the test holds
abbrev pub Between : State → List Step → ℕ → ℕ → (Moment → Bool) → Type 0
Between st steps i j test = (k : ℕ) × (m : Moment) × (i < k) × (k < j) × At st steps k m × IsTrue (test m)

-- some moment before this one, at which the test holds
abbrev pub Before : State → List Step → ℕ → (Moment → Bool) → Type 0
Before st steps j test = (k : ℕ) × (m : Moment) × (k < j) × At st steps k m × IsTrue (test m)

-- A row is given to two takes only if the first was under a transaction that was aborted between them.
abbrev pub TakenOnce : State → List Step → Type 0
TakenOnce st steps =
    (i j n : ℕ) (first second : Moment) → i < j → At st steps i first → At st steps j second
    → IsTrue (takes first n) → IsTrue (takes second n)
    → (x : ℕ) × (viewer first ≡ Some x) × Between st steps i j (aborts x)

-- the row stands with this writer
abbrev pub is_hidden : ℕ → ℕ → Moment → Bool
is_hidden n x m = list_any (λ r. r.number == n && is_caller r.writer x) m.state.rows

-- A row that was written under a transaction is shown outside it only after its commit.
abbrev pub Provenance : State → List Step → Type 0
Provenance st steps =
    (i j n x : ℕ) (hidden seen : Moment) → At st steps i hidden → At st steps j seen
    → IsTrue (is_hidden n x hidden) → IsTrue (shows seen n) → viewer seen ≢ Some x
    → Before st steps j (commits x)

-- A transaction ends once. At its commit each joined space has voted for it, under the crash count under which it
-- joined, and no reset came between. What ended is nowhere any more.
pub record OneDecision (st : State) (steps : List Step) : Type 0 where
  pub once : (i j x : ℕ) (m n : Moment) → At st steps i m → At st steps j n → IsTrue (ends x m) → IsTrue (ends x n) → i ≡ j
  pub voted : (i x : ℕ) (m : Moment) (j : Joined) → At st steps i m → IsTrue (commits x m) → Contains (joined_of m.state x) j
      → IsTrue (is_vote_to_commit j) × Before st steps i (λ v. votes x j.space v && crash_count v.state j.space == j.crash_count)
  pub undisturbed : (i j x space : ℕ) (vote decision : Moment) → i < j → At st steps i vote → At st steps j decision
      → IsTrue (votes_prepared x space vote) → IsTrue (commits x decision) → ¬ Between st steps i j (resets space)
  pub gone : (i j x : ℕ) (m : Moment) (later : State) → At st steps i m → IsTrue (ends x m)
      → i < j → slice_get (states st steps) j ≡ Some later → IsFalse (bears later x)

-- ---- match sets

-- the set stands, and the row is one of its space that its template matches and that it may read
abbrev pub reads : ℕ → ℕ → State → Bool
reads m n st =
    option_map_or
    (λ s. list_any (λ r. r.number == n && r.space == s.space && readable s.transaction r && matches st.classes s.template r.entry) st.rows)
    (set_of st m)
    false

-- the rows that the set might have read in each state, of these, in which it stood
abbrev pub still : ℕ → List State → List ℕ
still m sts =
    filter (λ n. list_all (λ st. is_none (set_of st m) || reads m n st) sts)
    (option_map_or (λ st. map (λ r. r.number) st.rows) (last_or None sts) [])

-- the rows that it showed, page after page
abbrev pub shown_by : ℕ → List Moment → List ℕ
shown_by m ms = flat_map (λ w. if option_map_or (λ p. p.0 == m) (page_asked w) false then page_rows w else []) ms

-- its last page is shown
abbrev pub shows_end : ℕ → Moment → Bool
shows_end m w = option_map_or (λ p. p.0 == m && is_last_page w.state p.0 p.1) (page_asked w) false

-- A match set that came to its end has shown each row that was readable all the while, and none twice, and each when
-- it was readable.
pub record MatchSetsAreWhole (st : State) (steps : List Step) : Type 0 where
  pub whole : (i m n : ℕ) (w : Moment) → At st steps i w → IsTrue (shows_end m w)
      → IsTrue (contains (still m (take (i + 1) (states st steps))) n)
      → count_by (λ k. k == n) (shown_by m (take (i + 1) (moments st steps))) ≡ 1
  pub once : (m n : ℕ) → count_by (λ k. k == n) (shown_by m (moments st steps)) ≤ 1
  pub readable : (i m n : ℕ) (w : Moment) → At st steps i w → IsTrue (contains (shown_by m (w ∷ [])) n) → IsTrue (reads m n w.state)
