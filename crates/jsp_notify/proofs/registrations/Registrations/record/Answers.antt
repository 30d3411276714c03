use Rattle.std.proofs.Common.{◌≡◌, ◌==◌, List, true, length, ap, sym, ◌∙◌}
use Rattle.jsp_model.specs.declared.state.Row.{Row}
use Rattle.jsp_notify.proofs.Hearing.{none_owed}
use Rattle.jsp_notify.proofs.registrations.Registrations.record.Goals as goal

pub returns-then-is_empty-clause-ok : goal.returns-then-is_empty-clause-ok
returns-then-is_empty-clause-ok c =
    let none : (length c.args.published == 0) ≡ true = ap (λ (rows : List Row). length rows == 0) (sym c.as_slice.ensures) ∙ (sym c.is_empty.ensures ∙ c.if-is_empty.true) in
    none_owed c.args.classes.now c.args.published c.args.self.now none
