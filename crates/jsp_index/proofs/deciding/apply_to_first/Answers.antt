use Rattle.std.proofs.Common.{◌∙◌, ap, sym, subst}
use Rattle.std.specs.List.{filter_map}
use Rattle.jsp_sight.specs.Deciding.{fate}
use Rattle.jsp_index.specs.Holding.{AreHeld}
use Rattle.jsp_index.proofs.Fates.{held_at, decided_before}
use Rattle.jsp_index.proofs.deciding.apply_to_first.Goals as goal

pub returns-clause-held : goal.returns-clause-held
returns-clause-held c =
    let number = c.in-Some.number in
    subst (AreHeld c.unlist.new.holders) (sym c.apply_at.ensures) (held_at c.args.holders.now c.unlist.new.holders c.args.decision.now number c.unlist.ensures c.args.rows.now c.requires)

pub returns-clause-same : goal.returns-clause-same
returns-clause-same c = ap (filter_map (fate c.args.decision.now)) c.apply_at.ensures ∙ decided_before c.args.decision.now c.in-Some.number c.args.rows.now
