use Rattle.std.proofs.Common.{sym, subst}
use Rattle.jsp_index.specs.Holding.{AreHeld}
use Rattle.jsp_index.proofs.Holders.{held_read, all_still_held}
use Rattle.jsp_index.proofs.hinted.HintedRows.read.Goals as goal

pub invariant_of-self-2 : goal.invariant_of-self-2
invariant_of-self-2 c =
    let holders = c.hold_number.new.holders in
    let still = all_still_held c.self.inside.holders holders c.self.inside.rows c.hold_number.ensures.keeps c.self.invariant in
    subst (AreHeld holders) (sym c.in_ok-read.ensures.ok) (held_read holders c.args.number c.args.x c.self.inside.rows c.in_ok-hold_number.ensures.ok still)

pub invariant_of-self-in_err-read : goal.invariant_of-self-in_err-read
invariant_of-self-in_err-read c =
    let holders = c.hold_number.new.holders in
    subst (AreHeld holders) (sym c.in_err-read.ensures.err) (all_still_held c.self.inside.holders holders c.self.inside.rows c.hold_number.ensures.keeps c.self.invariant)
