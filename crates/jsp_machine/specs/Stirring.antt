-- Which requests a row stirs.
use Rattle.std.specs.Prelude.{ℕ, Bool, not, ◌||◌, List, Option}
use Rattle.std.specs.List.{list_all}
use Rattle.jsp_model.specs.declared.state.State.{State}
use Rattle.jsp_model.specs.declared.state.Row.{Row}
use Rattle.jsp_wait.specs.Offered.{waits_for}
use Rattle.jsp_core.specs.Offering.{is_offered}

-- each request is named that waits for a conflict to end and asks for the row
abbrev pub are_named_for : State → Option (List ℕ) → Row → Bool
are_named_for st stirred row = list_all (λ b. not (waits_for st.classes row b) || is_offered stirred b.number) st.blocked
