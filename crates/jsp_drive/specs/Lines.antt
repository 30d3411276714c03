-- The lines of sessions, and what is pending at each.
use Rattle.std.specs.Prelude.{◌≡◌, ℕ, false, ◌==◌, nat_eq, List, [], Option, Some, None, IfSome}
use Rattle.std.specs.HashMap.{HashMap, get}
use Rattle.jsp_wire.specs.declared.ask.Version.{Version}
use Rattle.jsp_wire.specs.declared.ask.Version.TheVariants as version
use Rattle.jsp_drive.specs.Line.{Unheard, IsOpen}

-- the bytes that are in no frame yet, and the version of the line behind those that are
pub record Pending : Type 0 where
  pub version : Version
  pub rest : List ℕ

-- before the first byte
abbrev pub nothing : Pending
nothing = record { version = version.One; rest = [] }

-- what is pending at the session t is the same before and after, but for the session s
abbrev pub SameBut : ℕ → (ℕ → Pending) → (ℕ → Pending) → Type 0
SameBut s before after = (t : ℕ) → (s == t) ≡ false → after t ≡ before t

abbrev pub Same : (ℕ → Pending) → (ℕ → Pending) → Type 0
Same before after = (t : ℕ) → after t ≡ before t

abbrev pub held : Unheard → Pending
held line = record { version = line.version; rest = line.rest }

abbrev pub held_by : Option Unheard → Pending
held_by None = nothing
held_by (Some line) = held line

module _ {S : Type 0} where
  abbrev pub pending : HashMap ℕ Unheard S → ℕ → Pending
  pending lines s = held_by (get nat_eq lines s)

  abbrev pub AreLines : HashMap ℕ Unheard S → Type 0
  AreLines lines = (s : ℕ) → IfSome (get nat_eq lines s) IsOpen

  -- this is pending at the session now
  pub record SetsLine (s : ℕ) (p : Pending) (old new : HashMap ℕ Unheard S) : Type 0 where
    pub here : pending new s ≡ p
    pub others : SameBut s (pending old) (pending new)
    pub lines : AreLines new
