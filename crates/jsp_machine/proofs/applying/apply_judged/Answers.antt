use Rattle.jsp_machine.proofs.Stepping.{hand_out_parts}
use Rattle.jsp_machine.proofs.applying.apply_judged.Goals as goal

pub hand_out-requires-clause-some : goal.hand_out-requires-clause-some
hand_out-requires-clause-some c = (hand_out_parts c.args.image.now c.in-HandOut.session c.in-HandOut.count (rw c.in-HandOut.is at c.requires.legal)).0

pub hand_out-requires-clause-there : goal.hand_out-requires-clause-there
hand_out-requires-clause-there c = (hand_out_parts c.args.image.now c.in-HandOut.session c.in-HandOut.count (rw c.in-HandOut.is at c.requires.legal)).1
