-- Who may be given a row by its number.
use Rattle.std.specs.Prelude.{ℕ, Bool, false, ◌==◌, find}
use Rattle.std.specs.Option.{option_map_or}
use Rattle.jsp_model.specs.declared.state.State.{State}
use Rattle.jsp_model.specs.declared.state.Row.{Row}
use Rattle.jsp_model.specs.declared.state.Blocked.{Blocked}
use Rattle.jsp_model.specs.Sight.{is_available}

abbrev pub may_take : State → ℕ → Blocked → Bool
may_take st n b = option_map_or (is_available st b) (find (λ (r : Row). r.number == n) st.rows) false
