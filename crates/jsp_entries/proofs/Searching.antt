-- Requests for rows: what their refusals leave known, and how one that waits is granted.
use Rattle.std.proofs.Common.{◌≡◌, ℕ, List, Option, Some, None, sym, ap}
use Rattle.std.specs.Prelude.{option_map}
use Rattle.jsp_types.specs.Tests.{first_that}
use Rattle.jsp_model.specs.declared.state.State.{State}
use Rattle.jsp_model.specs.declared.state.Blocked.{Blocked}
use Rattle.jsp_model.specs.declared.state.Form.{Form}
use Rattle.jsp_model.specs.Requests.{RowRequest}
use Rattle.jsp_model.specs.Refusals.{space_tests, template_tests, rows_tests}
use Rattle.jsp_model.specs.Changes.{unblock}
use Rattle.jsp_model.specs.Steps.{after_grant}
use Rattle.jsp_state.specs.Fitting.{AllFit}
use Rattle.jsp_state.proofs.Testing.{none_of_second}
use Rattle.jsp_state.proofs.Fitting.{all_fit}
use Rattle.jsp_entries.specs.Giving.{given_to}
use Rattle.jsp_entries.specs.Searching.{waiting_tests, form_and_caller}

-- the templates of one that isn't refused
pub templates_fit : (st : State) (s id : ℕ) (q : RowRequest) → first_that (rows_tests st s id q) ≡ None → AllFit st.classes q.templates
templates_fit st s id q h = all_fit st q.templates (none_of_second (space_tests st q.space q.txn) (template_tests st q.templates) (waiting_tests st s id q) h)

-- one that waits is given its rows by its form and caller alone
pub granted_is : (st : State) (n : ℕ) (ns : List ℕ) (o : Option Blocked) (form : Form) (caller : Option ℕ) → option_map form_and_caller o ≡ Some (form, caller) → unblock (given_to form caller ns st) n ≡ after_grant st n ns o
granted_is st n ns None form caller h = cc (h)
granted_is st n ns (Some b) form caller h =
    let same : form_and_caller b ≡ (form, caller) = cc (h) in
    ap (λ (p : Form × Option ℕ). unblock (given_to p.0 p.1 ns st) n) (sym same)
