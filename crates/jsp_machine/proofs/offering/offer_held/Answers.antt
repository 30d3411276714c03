use Rattle.std.proofs.Common.{◌≡◌, sym, subst, true, not, ◌||◌, ℕ, List}
use Rattle.std.specs.List.{list_all}
use Rattle.jsp_model.specs.declared.state.State.{State}
use Rattle.jsp_model.specs.declared.state.Row.{Row}
use Rattle.jsp_model.specs.Lookup.{contains}
use Rattle.jsp_machine.specs.Unmarking.{is_unmarked}
use Rattle.jsp_machine.proofs.OnOffer.{all_opened, all_added}
use Rattle.jsp_machine.proofs.offering.offer_held.Goals as goal

pub returns-in-Ok-clause-held : goal.returns-in-Ok-clause-held
returns-in-Ok-clause-held c =
    let held : list_all (λ (r : Row). not (is_unmarked c.args.unmarking r) || contains c.in-Ok.numbers.items r.number) c.state.inside.rows ≡ true = c.in-Ok.ensures in
    let rows = subst (λ (st : State). list_all (λ (r : Row). not (is_unmarked c.args.unmarking r) || contains c.in-Ok.numbers.items r.number) st.rows ≡ true) c.state.view_is held in
    all_added (is_unmarked c.args.unmarking) c.in-Ok.numbers.items c.add_all.new.self c.args.state.now.rows rows
    (λ n e. c.add_all.ensures.added n (subst (λ (ns : List ℕ). contains ns n ≡ true) (sym c.as_slice.ensures.value) e))

pub returns-in-Err-clause-held : goal.returns-in-Err-clause-held
returns-in-Err-clause-held c = all_opened (is_unmarked c.args.unmarking) c.open-in-Err.new.self c.args.state.now.rows c.open-in-Err.ensures

pub returns-then-are_many-clause-held : goal.returns-then-are_many-clause-held
returns-then-are_many-clause-held c = all_opened (is_unmarked c.args.unmarking) c.open.new.self c.args.state.now.rows c.open.ensures
