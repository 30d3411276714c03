use Rattle.std.proofs.Common.{◌≡◌, true, false, ap, refl, sym, ◌∙◌}
use Rattle.std.specs.Prelude.{filter}
use Rattle.jsp_decided.specs.Recording.{covers}
use Rattle.jsp_decided.proofs.RowsAfter.{one_fewer, is_elsewhere, others_stay, all_elsewhere}
use Rattle.jsp_decided.proofs.decided.DecidedRows.apply_in.Goals as goal

pub recorded-init : goal.recorded-init
recorded-init c = record { same = refl; others = refl }

pub recorded-preserved : goal.recorded-preserved
recorded-preserved c = record {
  same = c.apply_first.ensures.same ∙ c.recorded.invariant.same;
  others = ap (filter (is_elsewhere c.args.space)) c.apply_first.ensures.less ∙ (others_stay c.args.space c.recorded.self.recorded.items ∙ c.recorded.invariant.others);
}

pub recorded-smaller : goal.recorded-smaller
recorded-smaller c =
    let some : covers c.recorded.self.recorded.items c.args.space ≡ true = sym (c.covers.ensures ∙ ap (λ ds. covers ds c.args.space) c.deref.ensures.value) ∙ c.recorded-test.true in
    one_fewer c.args.space c.recorded.self.recorded.items c.apply_first.new.self.recorded.items some c.apply_first.ensures.less

pub returns-clause-others : goal.returns-clause-others
returns-clause-others c =
    let none : covers c.recorded.self.recorded.items c.args.space ≡ false = sym (c.covers.ensures ∙ ap (λ ds. covers ds c.args.space) c.deref.ensures.value) ∙ c.recorded-test.false in
    all_elsewhere c.args.space c.recorded.self.recorded.items none ∙ c.recorded.invariant.others
