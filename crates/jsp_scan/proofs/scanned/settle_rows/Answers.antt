use Rattle.std.proofs.Common.{rules}
use Rattle.jsp_model.specs.Changes.{unread}
use Rattle.jsp_scan.proofs.Retaining.{kept_and_changed}
use Rattle.jsp_scan.proofs.scanned.settle_rows.Goals as goal

pub returns : goal.returns
returns c = kept_and_changed _ _ (unread c.args.x) _ _ (λ r b t y h. search rules) _ _ c.retain_mut.ensures.filtered
