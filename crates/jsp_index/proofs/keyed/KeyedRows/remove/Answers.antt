use Rattle.std.proofs.Common.{not, eqb, ap, sym, ◌∙◌, subst}
use Rattle.std.specs.Prelude.{filter}
use Rattle.jsp_table.proofs.Finding.{found_number}
use Rattle.jsp_index.specs.Seen.{AreSeen}
use Rattle.jsp_index.specs.Finding.{number, row_numbered}
use Rattle.jsp_model.specs.declared.state.Row.{Row}
use Rattle.jsp_index.specs.Passed.{ArePassed}
use Rattle.jsp_index.proofs.Heads.{passed_left, passed_still}
use Rattle.jsp_index.proofs.Beside.{left_beside, none_goes}
use Rattle.jsp_index.specs.Shapes.{AreShaped}
use Rattle.jsp_index.proofs.keyed.KeyedRows.remove.Goals as goal

pub invariant_of-self : goal.invariant_of-self
invariant_of-self c =
    let self = c.self.inside in (
      left_beside self.seen self.counts self.rows c.self.invariant.0 c.forget_with.new.seen c.count_one_less.new.counts c.args.number c.in-Some.row.now c.remove-2.new.self c.places.ensures.rising (sym c.in-Some.ensures) c.count_one_less.ensures
          (subst (λ n. AreSeen c.forget_with.new.seen (filter (λ (x : Row). not (eqb x.number n)) self.rows)) (found_number number c.args.number self.rows c.in-Some.row.now (sym c.in-Some.ensures)) (c.forget_with.ensures c.self.invariant.0.classes)) c.remove-2.ensures,
      (
        subst (ArePassed self.seed c.drop_starts.new.starts) (sym c.remove-2.ensures) (passed_left self.seed c.drop_starts.new.starts (λ (x : Row). not (eqb x.number c.args.number)) self.rows (passed_still self.seed self.starts c.drop_starts.new.starts self.rows c.drop_starts.ensures c.self.invariant.1.0)),
        subst (AreShaped self.seed c.remove.new.self.list) (sym c.remove-2.ensures) (subst (λ n. AreShaped self.seed c.remove.new.self.list (filter (λ (x : Row). not (eqb x.number n)) self.rows)) (found_number number c.args.number self.rows c.in-Some.row.now (sym c.in-Some.ensures)) (c.remove.ensures self.rows c.self.invariant.1.1)),
      ),
    )

pub returns-in_default : goal.returns-in_default
returns-in_default c = none_goes c.args.number c.args.self.now (ap (λ w. row_numbered c.args.number w) (sym c.self.view_is) ∙ sym c.in_default.ensures)
