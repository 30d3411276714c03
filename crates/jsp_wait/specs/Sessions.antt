-- The requests of each session, by their numbers, in arrival order.
use Rattle.std.specs.Prelude.{◌≡◌, ℕ, ◌==◌, [], List, nat_eq, map, filter}
use Rattle.std.specs.HashMap.{HashMap, get, spare}
use Rattle.std.specs.Option.{option_map_or}
use Rattle.jsp_model.specs.declared.state.Blocked.{Blocked}

-- its number, and the id under which it was asked
abbrev pub number_and_id : Blocked → ℕ × ℕ
number_and_id b = (b.number, b.id)

-- those of a session, of these
abbrev pub asked_by : ℕ → List Blocked → List (ℕ × ℕ)
asked_by session requests = map number_and_id (filter (λ b. b.session == session) requests)

module _ {S R : Type 0} where
  -- what stands in the session's map, nothing where it has none
  abbrev pub entries_of : HashMap ℕ (HashMap ℕ ℕ S) R → ℕ → List (ℕ × ℕ)
  entries_of sessions session = option_map_or (λ m. m.entries) (get nat_eq sessions session) []

  -- how many more the session's map takes with no memory
  abbrev pub room_of : HashMap ℕ (HashMap ℕ ℕ S) R → ℕ → ℕ
  room_of sessions session = option_map_or spare (get nat_eq sessions session) 0

  -- each session's map has its requests, of these
  abbrev pub AreOfSessions : HashMap ℕ (HashMap ℕ ℕ S) R → List Blocked → Type 0
  AreOfSessions sessions requests = (s : ℕ) → entries_of sessions s ≡ asked_by s requests
