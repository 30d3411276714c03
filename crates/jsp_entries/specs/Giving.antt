-- Rows that are given to a request.
use Rattle.std.specs.Prelude.{ℕ, not, if◌then◌else◌, List, [], ◌∷◌, map, filter, flat_map, Option}
use Rattle.jsp_model.specs.declared.state.State.{State}
use Rattle.jsp_model.specs.declared.state.Row.{Row}
use Rattle.jsp_model.specs.declared.state.Form.{Form}
use Rattle.jsp_model.specs.Lookup.{contains}
use Rattle.jsp_sight.specs.Rows.{with_reader, taken_row}
use Rattle.jsp_model.specs.Sight.{is_take}
use Rattle.jsp_model.specs.Changes.{read_by, taken_by}

abbrev pub read_row : ℕ → List ℕ → Row → Row
read_row x ns row = if contains ns row.number then with_reader x row else row

-- the rows of these numbers are read or taken under the transaction, or they go
abbrev pub read : ℕ → List ℕ → State → State
read x ns st = record st { rows = map (read_row x ns) st.rows }

abbrev pub taken : ℕ → List ℕ → State → State
taken x ns st = record st { rows = map (taken_row x ns) st.rows }

abbrev pub removed : List ℕ → State → State
removed ns st = record st { rows = filter (λ r. not (contains ns r.number)) st.rows }

-- the rows of these numbers are given to a request of this form and caller
abbrev pub given_to : Form → Option ℕ → List ℕ → State → State
given_to form caller ns st =
    record st { rows = flat_map (λ row. if contains ns row.number then (if is_take form then taken_by caller row else read_by caller row) else row ∷ []) st.rows }
