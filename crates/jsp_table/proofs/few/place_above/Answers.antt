use Rattle.std.proofs.Common.{arith}
use Rattle.jsp_table.proofs.Rising.{found_between, Splits}
use Rattle.jsp_table.proofs.few.place_above.Goals as goal

pub returns-in-Err-clause-before : goal.returns-in-Err-clause-before
returns-in-Err-clause-before c k less =
    let xs = c.args.numbers.now in
    let s : Splits xs c.args.number c.in-Err.place = found_between xs c.args.number c.in-Err.place c.requires c.in-Err.ensures.position (omega (arith, c.in-Err.ensures.bound)) in
    omega (arith, s.below k less)

pub returns-in-Err-clause-beyond : goal.returns-in-Err-clause-beyond
returns-in-Err-clause-beyond c k le lt =
    let xs = c.args.numbers.now in
    let s : Splits xs c.args.number c.in-Err.place = found_between xs c.args.number c.in-Err.place c.requires c.in-Err.ensures.position (omega (arith, c.in-Err.ensures.bound)) in
    s.above k le lt
