use Rattle.std.proofs.Common.{◌∙◌, ap, map, [], ◌∷◌}
use Rattle.jsp_notify.specs.Owing.{forgiven}
use Rattle.jsp_notify.proofs.Owed.{forgiven_more, none_forgiven}
use Rattle.jsp_notify.proofs.hinted.HintedRegistrations.forgive_all.Goals as goal

pub rows-init : goal.rows-init
rows-init c = none_forgiven c.args.classes.now c.args.caller c.args.self.now

pub rows-preserved : goal.rows-preserved
rows-preserved c =
    let change = forgiven c.args.classes.now c.args.caller (c.row-item.result ∷ []) in
    c.forgive.ensures ∙ (ap (map change) c.rows.invariant ∙ forgiven_more c.args.classes.now c.args.caller c.args.rows.now c.rows.row-index c.row-item.result c.rows-test.true c.row-item.is c.args.self.now)
