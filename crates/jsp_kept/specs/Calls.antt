-- What the calls on a history change, and what stays.
use Rattle.std.specs.Prelude.{◌≡◌, ℕ, ◌+◌, ◌-◌, ◌^◌, ◌≤◌, ◌&&◌, Bool, true, false, if◌then◌else◌, List, [], ◌∷◌, ◌++◌, length, get_or, set, Result, Ok, Err, Some}
use Rattle.jsp_model.specs.declared.house.Stopped.{Stopped}
use Rattle.jsp_model.specs.declared.house.Why.{Why}
use Rattle.jsp_model.specs.declared.house.Why.TheVariants as why
use Rattle.jsp_model.specs.declared.house.Input.{Input}
use Rattle.jsp_model.specs.declared.house.Input.TheVariants as input
use Rattle.jsp_model.specs.House.{was_done}
use Rattle.jsp_kept.specs.History.{History, Place}

-- ---- what stays

-- it is the same era
pub record KeepsEra (h k : History) : Type 0 where
  pub spaces : k.spaces ≡ h.spaces
  pub era : k.era ≡ h.era
  pub is_sealed : k.is_sealed ≡ h.is_sealed

pub record KeepsAsks (h k : History) : Type 0 where
  pub asked : k.asked ≡ h.asked
  pub book : k.asks_book ≡ h.asks_book

pub record KeepsOuts (h k : History) : Type 0 where
  pub taken : k.taken ≡ h.taken
  pub book : k.outs_book ≡ h.outs_book

-- ---- what changes

abbrev pub raised : List ℕ → ℕ → ℕ → List ℕ
raised counts i by = set counts i (get_or counts i 0 + by)

-- the counts of the session go up by so many, in the seat, the history and the book
pub record RaisesAsks (h k : History) (p q : Place) (by : ℕ) : Type 0 where
  pub asked : k.asked ≡ raised h.asked (p.session - 1) by
  pub book : k.asks_book ≡ h.asks_book + by
  pub seat : q ≡ record { session = p.session; count = p.count + by }

pub record RaisesOuts (h k : History) (p q : Place) (by : ℕ) : Type 0 where
  pub taken : k.taken ≡ raised h.taken (p.session - 1) by
  pub book : k.outs_book ≡ h.outs_book + by
  pub seat : q ≡ record { session = p.session; count = p.count + by }

-- 1 where the call made its own step
abbrev pub made : {A : Type 0} → Bool → Result A Stopped → ℕ
made accepted result = if accepted && was_done result then 1 else 0

-- a session was opened, with counts of 0
pub record Begins (h k : History) (p q : Place) : Type 0 where
  pub asks : p ≡ record { session = h.state.last_session + 1; count = 0 }
  pub outs : q ≡ record { session = h.state.last_session + 1; count = 0 }
  pub asked : k.asked ≡ h.asked ++ 0 ∷ []
  pub taken : k.taken ≡ h.taken ++ 0 ∷ []
  pub asks_book : k.asks_book ≡ h.asks_book
  pub outs_book : k.outs_book ≡ h.outs_book

-- a new era begins where the history stands, with no steps
pub record Seals (h k : History) : Type 0 where
  pub steps : k.steps ≡ []
  pub is_sealed : k.is_sealed ≡ true
  -- the rest stays
  pub spaces : k.spaces ≡ h.spaces
  pub state : k.state ≡ h.state
  pub debt : k.debt ≡ h.debt
  pub asked : k.asked ≡ h.asked
  pub taken : k.taken ≡ h.taken
  pub asks_book : k.asks_book ≡ h.asks_book
  pub outs_book : k.outs_book ≡ h.outs_book
  pub era : k.era ≡ h.era

-- the input is a request or fault of the session
abbrev pub IsOf : ℕ → Input → Type 0
IsOf s (input.Ask t asked) = t ≡ s
IsOf s (input.Fault t id refusal) = t ≡ s
IsOf s (input.Open t) = ⊥
IsOf s (input.Clock t) = ⊥

-- ---- why a call is stopped

abbrev pub audit : Stopped
audit = record { why = why.Audit; done = false }

-- there is no number left for a session, or no memory
abbrev pub MayNotBegin : History → Why → Type 0
MayNotBegin h why.NoMemory = Unit {0}
MayNotBegin h why.EraFull = ⊥
MayNotBegin h why.Sessions = 2 ^ 31 ≤ h.state.last_session
MayNotBegin h why.Audit = ⊥

-- the result without its value
abbrev pub outcome : {A : Type 0} → Result A Stopped → Result Unit Stopped
outcome (Ok x) = Ok tt
outcome (Err e) = Err e
