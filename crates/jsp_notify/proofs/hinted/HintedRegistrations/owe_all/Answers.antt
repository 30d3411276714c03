use Rattle.std.proofs.Common.{◌∙◌, [], ◌∷◌, take, ap, map}
use Rattle.jsp_notify.specs.Owing.{owed, forgiven}
use Rattle.jsp_notify.proofs.Owed.{owed_more, none_owed, all_forgiven}
use Rattle.jsp_notify.proofs.hinted.HintedRegistrations.owe_all.Goals as goal

pub rows-init : goal.rows-init
rows-init c = none_owed c.args.classes.now c.args.caller c.args.self.now

pub returns-in-Err-clause-err : goal.returns-in-Err-clause-err
returns-in-Err-clause-err c =
    let classes = c.args.classes.now in
    let caller = c.args.caller in
    let first = take c.rows.place c.args.rows.now in
    c.forgive_all.ensures
    ∙ (ap (map (forgiven classes caller first)) (c.in-Err.ensures.err ∙ c.rows.invariant) ∙ all_forgiven classes caller first c.args.self.now)

pub rows-preserved : goal.rows-preserved
rows-preserved c =
    let change = owed c.args.classes.now c.args.caller (c.index-rows-place.result ∷ []) in
    c.in_default.ensures.ok ∙ (ap (map change) c.rows.invariant ∙ owed_more c.args.classes.now c.args.caller c.args.rows.now c.rows.place c.index-rows-place.result c.rows-test.true c.index-rows-place.is c.args.self.now)
