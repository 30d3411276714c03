use Rattle.std.proofs.Common.{sym, ◌∙◌, arith}
use Rattle.jsp_wire.proofs.Placed.{found_back, not_back}
use Rattle.jsp_wire.proofs.tree.member.Goals as goal

pub returns-then-eq : goal.returns-then-eq
returns-then-eq c =
    found_back c.args.name.now c.args.members.now c.back.left c.index-members-left.result c.back-test.true c.back.invariant.within c.index-members-left.is
    (sym c.eq.ensures ∙ c.if-eq.true) c.back.invariant.same

pub back-preserved : goal.back-preserved
back-preserved c =
    record {
      within = omega (arith, c.back-test.true, c.back.invariant.within);
      same = not_back c.args.name.now c.args.members.now c.back.left c.index-members-left.result c.back-test.true c.back.invariant.within c.index-members-left.is
          (sym c.eq.ensures ∙ c.if-eq.false) c.back.invariant.same;
    }
