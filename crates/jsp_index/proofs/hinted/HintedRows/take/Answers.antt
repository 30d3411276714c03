use Rattle.std.proofs.Common.{sym, subst}
use Rattle.jsp_index.specs.Holding.{AreHeld}
use Rattle.jsp_index.proofs.Holders.{held_taken, all_still_held}
use Rattle.jsp_index.proofs.hinted.HintedRows.take.Goals as goal

pub invariant_of-self-2 : goal.invariant_of-self-2
invariant_of-self-2 c =
    let holders = c.hold_numbers.new.holders in
    let still = all_still_held c.self.inside.holders holders c.self.inside.rows c.hold_numbers.ensures.keeps c.self.invariant in
    subst (AreHeld holders) (sym c.take_all.ensures) (held_taken holders c.args.x c.args.numbers.now c.self.inside.rows c.in_ok-hold_numbers.ensures.ok still)
