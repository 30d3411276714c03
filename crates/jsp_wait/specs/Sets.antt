-- Match sets: their ends, what becomes of one, and under which keys one is found.
use Rattle.std.specs.Prelude.{ℕ, ◌==◌, if◌then◌else◌, List, [], ◌∷◌, Option, unwrap_or}
use Rattle.std.specs.Option.{option_map_or}
use Rattle.jsp_lease.specs.declared.item.Item.{Item}
use Rattle.jsp_lease.specs.declared.item.Rank.TheVariants as rank
use Rattle.jsp_model.specs.declared.state.MatchSet.{MatchSet}
use Rattle.jsp_keys.specs.Keys.{space_key, session_key, transaction_key}

abbrev pub set_end : MatchSet → Item
set_end x = record { end = x.end; rank = rank.MatchSet; number = x.number }

-- the one of this number has this end
abbrev pub set_ending : ℕ → ℕ → MatchSet → MatchSet
set_ending n end m = if m.number == n then record m { end = end } else m

-- its cursor goes there, if it goes anywhere
abbrev pub to_cursor : Option ℕ → MatchSet → MatchSet
to_cursor last m = record m { cursor = unwrap_or last m.cursor }

-- its session, its transaction or its session once more, and its space
abbrev pub set_keys : ℕ → MatchSet → List ℕ
set_keys seed m = session_key seed m.session ∷ option_map_or (transaction_key seed) m.transaction (session_key seed m.session) ∷ space_key seed m.space ∷ []
