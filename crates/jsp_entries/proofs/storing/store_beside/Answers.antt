use Rattle.std.proofs.Common.{◌∙◌, map, ap}
use Rattle.jsp_notify.specs.News.{hearing}
use Rattle.jsp_notify.proofs.Told.{all_owed}
use Rattle.jsp_entries.proofs.storing.store_beside.Goals as goal

pub returns-clause-owed : goal.returns-clause-owed
returns-clause-owed c =
    let listeners = c.args.listeners.now in
    ap (map (hearing listeners.news)) c.in_ok-store_owed.ensures.owed ∙ all_owed listeners.news c.args.classes.now c.args.caller c.args.rows.items c.requires listeners.heard
