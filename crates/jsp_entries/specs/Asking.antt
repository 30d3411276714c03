-- What requests ask for, as the definitions of the machine have it.
use Rattle.std.specs.Prelude.{ℕ, ◌+◌, min}
use Rattle.jsp_model.specs.declared.state.State.{State}
use Rattle.jsp_model.specs.Lookup.{named}
use Rattle.jsp_model.specs.Requests.{RowRequest, WriteRequest}
use Rattle.jsp_entries.specs.declared.blocking.RowsAsked.{RowsAsked}
use Rattle.jsp_entries.specs.declared.write.WriteAsked.{WriteAsked}
use Rattle.jsp_model.specs.declared.limits.TheConstants.{NEVER}

abbrev pub rows_of : RowsAsked → RowRequest
rows_of a = record { form = a.form; space = a.space.now; templates = a.templates.now; most = a.most; timeout = a.timeout; txn = a.txn }

-- when it waits no longer
abbrev pub end_asked : State → RowRequest → ℕ
end_asked st q = min (st.time + named q.timeout) NEVER

abbrev pub write_of : WriteAsked → WriteRequest
write_of a = record { space = a.space.now; entries = a.entries.now; lease = a.lease; txn = a.txn }
