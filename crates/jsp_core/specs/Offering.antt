-- The rows that are on offer to requests that wait, and the requests of which a conflict may have ended.
use Rattle.std.specs.Prelude.{ℕ, Bool, true, not, ◌||◌, List, Option}
use Rattle.std.specs.List.{list_all}
use Rattle.std.specs.Option.{option_map_or}
use Rattle.jsp_model.specs.declared.state.State.{State}
use Rattle.jsp_model.specs.Lookup.{contains}
use Rattle.jsp_model.specs.Sight.{is_if, is_available, has_conflict}

-- one of these numbers, or any
abbrev pub is_offered : Option (List ℕ) → ℕ → Bool
is_offered offers n = option_map_or (λ ns. contains ns n) offers true

-- each row that a waiting request may be given is on offer
abbrev pub are_offered : Option (List ℕ) → State → Bool
are_offered offers st = list_all (λ b. list_all (λ r. not (is_available st b r) || is_offered offers r.number) st.rows) st.blocked

-- each request that waits for a conflict to end, and for which there is none, is named
abbrev pub are_stirred : Option (List ℕ) → State → Bool
are_stirred stirred st = list_all (λ b. not (is_if b.form) || (has_conflict st b || is_offered stirred b.number)) st.blocked
