use Rattle.std.proofs.Common.{rules}
use Rattle.jsp_sight.specs.Deciding.{fate}
use Rattle.jsp_scan.proofs.Retaining.{fated}
use Rattle.jsp_scan.proofs.scanned.apply.Goals as goal

pub returns : goal.returns
returns c = fated _ (fate c.args.decision.now) _ (λ r b t y h. search rules) _ _ c.retain_mut.ensures.filtered
