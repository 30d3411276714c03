use Rattle.std.proofs.Common.{◌≡◌, take}
use Rattle.jsp_transactions.specs.Writing.{rows_from}
use Rattle.jsp_entries.specs.Asking.{write_of}
use Rattle.jsp_entries.proofs.write.new_rows.Given as goal

abbrev pub invariant-entries : goal.invariant-entries
invariant-entries l = l.rows.items ≡ rows_from l.state.next_number l.state (write_of l.asked) (take l.place l.asked.entries.now)
