use Rattle.std.proofs.Common.{Some, None, ap, ◌∙◌}
use Rattle.jsp_sight.specs.Rows.{offered}
use Rattle.jsp_scan.proofs.Available.{among_is}
use Rattle.jsp_decided.specs.Decided.{rows_of}
use Rattle.jsp_decided.proofs.Flat.{passes_later}
use Rattle.jsp_decided.proofs.Numbered.{any_named_later}
use Rattle.jsp_decided.proofs.decided.DecidedRows.may_be_given.Goals as goal

pub returns-in-None : goal.returns-in-None
returns-in-None c =
    let p = offered c.args.classes.now c.args.blocked.now in
    any_named_later p c.args.number c.args.self.now.recorded.items c.args.self.now.stored c.places.ensures.numbered.rising None c.in-None.ensures ∙ among_is c.args.number p (rows_of c.args.self.now)

pub returns-in-Some : goal.returns-in-Some
returns-in-Some c =
    let p = offered c.args.classes.now c.args.blocked.now in
    c.is_available.ensures ∙ (ap (λ ds. passes_later p ds c.in-Some.row.now) c.deref.ensures.value
    ∙ (any_named_later p c.args.number c.args.self.now.recorded.items c.args.self.now.stored c.places.ensures.numbered.rising (Some c.in-Some.row.now) c.in-Some.ensures ∙ among_is c.args.number p (rows_of c.args.self.now)))
