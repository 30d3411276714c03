use Rattle.std.proofs.Common.{not, eqb, sym, subst}
use Rattle.jsp_model.specs.declared.state.Row.{Row}
use Rattle.jsp_index.specs.Passed.{ArePassed}
use Rattle.jsp_index.proofs.Heads.{passed_left, passed_still, none_lower}
use Rattle.jsp_index.proofs.Beside.{cleared_beside}
use Rattle.jsp_index.proofs.Covering.{space_sought}
use Rattle.jsp_index.specs.Shapes.{AreShaped}
use Rattle.jsp_index.proofs.keyed.KeyedRows.clear.Goals as goal

pub remove_all-requires : goal.remove_all-requires
remove_all-requires c seed r = space_sought seed c.args.space r

pub invariant_of-self : goal.invariant_of-self
invariant_of-self c =
    let self = c.self.inside in (
      cleared_beside self.seen self.counts self.rows c.self.invariant.0 c.forget_all.new.seen c.drop_count.new.counts c.args.space c.remove_all.new.self c.forget_all.ensures c.drop_count.ensures c.remove_all.ensures,
      (
        subst (ArePassed self.seed c.clear.new.self) (sym c.remove_all.ensures) (passed_left self.seed c.clear.new.self (λ (r : Row). not (eqb r.space c.args.space)) self.rows (passed_still self.seed self.starts c.clear.new.self self.rows (none_lower self.starts c.clear.new.self c.clear.ensures.empty) c.self.invariant.1.0)),
        subst (AreShaped self.seed c.forget.new.self.list) (sym c.remove_all.ensures) (c.forget.ensures self.seed self.rows c.self.invariant.1.1),
      ),
    )
