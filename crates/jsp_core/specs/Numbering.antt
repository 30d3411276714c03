-- Sessions by their numbers.
use Rattle.std.specs.Prelude.{◌≡◌, ◌≢◌, ℕ, ◌<◌, ◌==◌, if◌then◌else◌, List, length}
use Rattle.std.specs.List.{AllByRecursion, HoldsAt}
use Rattle.jsp_table.specs.Finding.{AreNumbered}
use Rattle.jsp_wire.specs.declared.ask.Version.{Version}
use Rattle.jsp_model.specs.declared.state.Session.{Session}

-- the numbers rise
abbrev pub AreRising : List Session → Type 0
AreRising sessions = AreNumbered (λ (k : Session). k.number) sessions

-- the session at this place has this number
pub record IsAt (sessions : List Session) (number place : ℕ) : Type 0 where
  pub within : place < length sessions
  pub numbered : HoldsAt (λ (k : Session). k.number ≡ number) sessions place

-- no session has this number
abbrev pub HasNone : List Session → ℕ → Type 0
HasNone sessions number = AllByRecursion (λ (k : Session). k.number ≢ number) sessions

-- the session, whose line has this version if the number is its own
abbrev pub versioned : ℕ → Version → Session → Session
versioned number v k = if k.number == number then record k { version = v } else k
