-- The history that one lock keeps, and what is true of it whenever the lock is free.
use Rattle.std.specs.Prelude.{◌≡◌, ℕ, ◌+◌, ◌-◌, ◌^◌, ◌≤◌, ◌==◌, ◌&&◌, nat_lt, Bool, false, List, [], ◌++◌, length, get_or, sum, Option, Some}
use Rattle.jsp_model.specs.declared.state.State.{State}
use Rattle.jsp_model.specs.declared.step.Step.{Step}
use Rattle.jsp_model.specs.Lookup.{empty}
use Rattle.jsp_model.specs.Runs.{IsRun, state_after}
use Rattle.jsp_quiet.specs.Steady.{IsSteady}
use Rattle.jsp_kept.specs.Counts.{asks_of, outs_of, shuts_of}

-- The counts of the session s stand at the place s - 1 of their lists.
pub record History : Type 0 where
  pub spaces : List (List ℕ)
  -- the house's view, and what it owes
  pub state : State
  pub debt : List ℕ
  -- the steps of the present era
  pub steps : List Step
  -- how many requests and faults each session made, and how many answers it took
  pub asked : List ℕ
  pub taken : List ℕ
  -- the sums that the two ledgers keep
  pub asks_book : ℕ
  pub outs_book : ℕ
  -- how many steps an era holds beside its Shuts, and whether one was sealed
  pub era : ℕ
  pub is_sealed : Bool

-- What is true whenever the lock is free. Some steps were made in earlier eras and are gone, none where no era was sealed. With
-- those of the present era they are one run from the empty state.
pub record IsKept (h : History) : Type 0 where
  pub earlier : List Step
  pub first : h.is_sealed ≡ false → earlier ≡ []
  pub run : IsRun (empty h.spaces) (earlier ++ h.steps)
  pub state : h.state ≡ state_after (empty h.spaces) (earlier ++ h.steps)
  pub steady : IsSteady h.state
  pub asked : (i : ℕ) → get_or h.asked i 0 ≡ asks_of (i + 1) (earlier ++ h.steps)
  pub taken : (i : ℕ) → get_or h.taken i 0 ≡ outs_of (i + 1) (earlier ++ h.steps)
  pub asks_book : h.asks_book ≡ sum h.asked
  pub outs_book : h.outs_book ≡ sum h.taken
  pub askers : length h.asked ≡ h.state.last_session
  pub takers : length h.taken ≡ h.state.last_session
  pub within : length h.steps ≤ h.era + shuts_of h.steps

-- nothing was done yet
abbrev pub new_history : List (List ℕ) → List ℕ → ℕ → History
new_history spaces debt era = record {
  spaces = spaces;
  state = empty spaces;
  debt = debt;
  steps = [];
  asked = [];
  taken = [];
  asks_book = 0;
  outs_book = 0;
  era = era;
  is_sealed = false;
}

-- the length at which the era is full; each Shut has a place of its own
abbrev pub limit_of : History → ℕ
limit_of h = h.era + shuts_of h.steps

-- what the program keeps beside the history
pub record Beside : Type 0 where
  pub asks_sum : ℕ
  pub outs_sum : ℕ
  -- the share of each ledger that no seat has
  pub asks_parts : ℕ
  pub asks_amount : ℕ
  pub outs_parts : ℕ
  pub outs_amount : ℕ
  -- the limit of the era, and the house's bound
  pub limit : ℕ
  pub bound : Option ℕ
  -- the places of the log that are spare
  pub spare : ℕ

pub record IsWhole (h : History) (b : Beside) : Type 0 where
  pub kept : IsKept h
  pub asks_sum : b.asks_sum ≡ h.asks_book
  pub outs_sum : b.outs_sum ≡ h.outs_book
  pub asks_parts : b.asks_parts + h.state.last_session ≡ 2 ^ 31 + 1
  pub asks_amount : b.asks_amount ≡ 0
  pub outs_parts : b.outs_parts + h.state.last_session ≡ 2 ^ 31 + 1
  pub outs_amount : b.outs_amount ≡ 0
  pub some : 1 ≤ h.era
  pub era : h.era ≤ 16777216
  pub limit : b.limit ≡ limit_of h
  pub bound : b.bound ≡ Some b.limit
  pub room : length h.state.sessions ≤ b.spare

-- ---- seats

-- a seat's session and count
pub record Place : Type 0 where
  pub session : ℕ
  pub count : ℕ

-- The seat's count is its session's, and the book of such counts has room.
abbrev pub is_lawful : List ℕ → ℕ → Place → Bool
is_lawful counts book p =
    nat_lt (p.session - 1) (length counts) && get_or counts (p.session - 1) 0 == p.count && nat_lt book (2 ^ 62)
