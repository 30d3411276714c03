use Rattle.std.proofs.Common.{sym, subst}
use Rattle.jsp_index.specs.Holding.{IsHeld, AreHeld}
use Rattle.jsp_keyed.proofs.Named.{All-append}
use Rattle.jsp_index.proofs.Holders.{all_still_held}
use Rattle.jsp_index.proofs.hinted.HintedRows.append.Goals as goal

pub invariant_of-self-2 : goal.invariant_of-self-2
invariant_of-self-2 c =
    let holders = c.hold_all.new.holders in
    let come = c.args.rows.now.items in
    let still = all_still_held c.self.inside.holders holders c.self.inside.rows c.hold_all.ensures.keeps c.self.invariant in
    let held : AreHeld holders come = subst (AreHeld holders) c.deref.ensures.value c.in_ok-hold_all.ensures.ok in
    subst (AreHeld holders) (sym c.in_ok-append.ensures.ok) (All-append (IsHeld holders) c.self.inside.rows come still held)

pub invariant_of-self : goal.invariant_of-self
invariant_of-self c = all_still_held c.self.inside.holders c.hold_all.new.holders c.self.inside.rows c.hold_all.ensures.keeps c.self.invariant

pub invariant_of-self-in_err-append : goal.invariant_of-self-in_err-append
invariant_of-self-in_err-append c =
    let holders = c.hold_all.new.holders in
    subst (AreHeld holders) (sym c.in_err-append.ensures.err) (all_still_held c.self.inside.holders holders c.self.inside.rows c.hold_all.ensures.keeps c.self.invariant)
