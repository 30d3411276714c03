use Rattle.std.proofs.Common.{◌∙◌, refl, take}
use Rattle.std.proofs.lemmas.List.Folds.{list_all_more}
use Rattle.jsp_model.specs.Lookup.{contains}
use Rattle.jsp_model.specs.House.{Covers}
use Rattle.jsp_quiet.proofs.Covering.{covers_more}
use Rattle.jsp_house.proofs.Order.{covers_itself}
use Rattle.jsp_house.proofs.owing.owe.Goals as goal

pub loop-space-init : goal.loop-space-init
loop-space-init c = (covers_itself c.args.debt.now.items, refl, λ h. h)

pub returns-in_err-owe_one-clause-stay : goal.returns-in_err-owe_one-clause-stay
returns-in_err-owe_one-clause-stay c = covers_more c.loop-space.debt.items c.owe_one.new.debt.items c.args.debt.now.items c.in_err-owe_one.ensures.stay c.loop-space.invariant.0

pub loop-space-preserved : goal.loop-space-preserved
loop-space-preserved c =
    let before = take c.loop-space.space-index c.args.spaces.now in
    let kept : Covers c.owe_one.new.debt.items before = covers_more c.loop-space.debt.items c.owe_one.new.debt.items before c.in_ok-owe_one.ensures.stay c.loop-space.invariant.1 in (
      covers_more c.loop-space.debt.items c.owe_one.new.debt.items c.args.debt.now.items c.in_ok-owe_one.ensures.stay c.loop-space.invariant.0,
      list_all_more (contains c.owe_one.new.debt.items) c.args.spaces.now c.loop-space.space-index 0 c.loop-space-test.true ∙ rw (kept, c.in_ok-owe_one.ensures.ok) refl,
      λ h. c.owe_one.ensures.once (c.loop-space.invariant.2 h),
    )
