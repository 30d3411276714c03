use Rattle.std.proofs.Common.{arith}
use Rattle.jsp_frame.proofs.Readings.{AreBytes}
use Rattle.jsp_closing.proofs.Continuing.{more_is_left}
use Rattle.jsp_closing.proofs.Left.{says_more, says_no_more}
use Rattle.jsp_closing.proofs.leaving.says_more.Goals as goal

pub returns-in-Input-clause-says : goal.returns-in-Input-clause-says
returns-in-Input-clause-says c = λ s asked gave.
    let bytes : AreBytes c.args.read.now = λ i. let fits = c.type_inv.read i in omega (arith, fits) in
    says_more s c.args.read.now asked c.args.line.now bytes (rw c.in-Input.is at c.in_ok-input.ensures.ok).0 gave

pub returns-in-More-clause-says : goal.returns-in-More-clause-says
returns-in-More-clause-says c = λ s asked gave. says_no_more s c.args.read.now asked _ ((rw c.in-More.is at c.in_ok-input.ensures.stream) s c.args.read.now asked gave).1

pub returns-in-Closed-clause-says : goal.returns-in-Closed-clause-says
returns-in-Closed-clause-says c = λ s asked gave. says_no_more s c.args.read.now asked _ ((rw c.in-Closed.is at c.in_ok-input.ensures.stream) s c.args.read.now asked gave).1

pub returns-in-Input-clause-only : goal.returns-in-Input-clause-only
returns-in-Input-clause-only c = λ s asked left too_long gave all yes none.
    let answers = rw c.in-Input.is at c.in_ok-input.ensures.ok in
    let follows = rw c.in-Input.is at c.in_ok-input.ensures.stream in
    let more = more_is_left s c.args.read.now asked left too_long c.in-Input.input c.args.line.now c.next.new.self answers follows gave all in
    absurd (cc (none, more.1))
