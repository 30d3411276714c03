use Rattle.std.proofs.Common.{◌≡◌, IsTrue}
use Rattle.jsp_model.specs.House.{is_input}
use Rattle.jsp_kept.specs.Calls.{IsOf}
use Rattle.jsp_line.proofs.shared.Shared.act_in_parts.Given as goal

abbrev pub invariant-loop : goal.invariant-loop
invariant-loop g l = (l.seat ≡ l.initial.seat) × IsTrue (is_input l.input) × IsOf l.initial.seat.session l.input
