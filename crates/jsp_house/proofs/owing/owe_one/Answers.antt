use Rattle.std.proofs.Common.{◌∙◌, ℕ, List, ap, sym, subst}
use Rattle.jsp_model.specs.Lookup.{contains}
use Rattle.jsp_model.specs.House.{Covers, OwesOnce}
use Rattle.jsp_house.proofs.Going.{covers_pushed}
use Rattle.jsp_house.proofs.Order.{covers_itself, owes_once}
use Rattle.jsp_house.proofs.owing.owe_one.Goals as goal

pub returns-in_err-push-clause-stay : goal.returns-in_err-push-clause-stay
returns-in_err-push-clause-stay c = subst (λ w. Covers w c.args.debt.now.items) (sym c.in_err-push.ensures.items) (covers_itself c.args.debt.now.items)

pub returns-in_ok-push-clause-stay : goal.returns-in_ok-push-clause-stay
returns-in_ok-push-clause-stay c = subst (λ w. Covers w c.args.debt.now.items) (sym c.in_ok-push.ensures.items) (covers_pushed c.args.debt.now.items c.args.space)

pub returns-else-not-contains-clause-stay : goal.returns-else-not-contains-clause-stay
returns-else-not-contains-clause-stay c = covers_itself c.args.debt.now.items

pub returns-in_ok-push-clause-once : goal.returns-in_ok-push-clause-once
returns-in_ok-push-clause-once c = subst (OwesOnce c.args.debt.now.items) (sym c.in_ok-push.ensures.items) (owes_once c.args.debt.now.items c.args.space (ap (λ (ns : List ℕ). contains ns c.args.space) (sym c.as_slice.ensures.value) ∙ sym c.contains.ensures ∙ c.if-not-contains.true))
