use Rattle.std.proofs.Common.{◌∙◌, ◌++◌, sym}
use Rattle.jsp_model.specs.Refusals.{space_tests, entry_tests}
use Rattle.jsp_state.proofs.Testing.{found_in_first}
use Rattle.jsp_entries.specs.Asking.{write_of}
use Rattle.jsp_entries.specs.Writing.{granting_tests}
use Rattle.jsp_entries.proofs.write.refuse_write.Goals as goal

pub returns-in-Some : goal.returns-in-Some
returns-in-Some c =
    let st = c.args.state.now in
    let w = write_of c.args.asked.now in
    found_in_first (space_tests st w.space w.txn) (entry_tests st w.entries ++ granting_tests st w) c.in-Some.refusal (sym c.space_refusal.ensures ∙ c.in-Some.is)
