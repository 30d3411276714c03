use Rattle.std.proofs.Common.{Option, Bor, option_copied, sym, subst}
use Rattle.jsp_model.specs.declared.state.Row.{Row}
use Rattle.jsp_index.specs.Finding.{is_next, IsLeast}
use Rattle.jsp_index.specs.Own.{is_own, IsKept}
use Rattle.jsp_index.proofs.OwnRows.{kept_none, kept_some}
use Rattle.jsp_index.proofs.hinted.HintedRows.next_own.Goals as goal

pub returns-in_default : goal.returns-in_default
returns-in_default g c =
    let passed = g.P.Test.is_passed c.args.test.now in
    let kind = is_own (option_copied c.args.scope.now.own) in
    let rows = c.args.self.now in
    kept_none passed kind rows c.args.after (subst (λ (o : Option (Bor Row)). IsKept passed kind c.args.after rows (option_copied o)) c.in_default.is c.requires.kept)

pub returns-then-after-row : goal.returns-then-after-row
returns-then-after-row g c =
    let passed = g.P.Test.is_passed c.args.test.now in
    let kind = is_own (option_copied c.args.scope.now.own) in
    let rows = c.args.self.now in
    let after = c.args.after in
    let kept = subst (λ (o : Option (Bor Row)). IsKept passed kind after rows (option_copied o)) c.in-Some.is c.requires.kept in
    subst (λ (o : Option (Bor Row)). IsLeast (is_next passed after) kind rows (option_copied o)) (sym c.in-Some.is) (kept_some passed kind rows after c.in-Some.row.now c.if-after-row.true kept)
