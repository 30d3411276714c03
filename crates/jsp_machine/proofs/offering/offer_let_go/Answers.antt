use Rattle.std.proofs.Common.{◌≡◌, ◌||◌, ℤ, List, not, true, false, subst}
use Rattle.std.specs.List.{list_all}
use Rattle.std.specs.Option.{option_map_or}
use Rattle.jsp_model.specs.declared.state.Row.{Row}
use Rattle.jsp_core.specs.Offering.{is_offered}
use Rattle.jsp_quiet.specs.Freeing.{frees}
use Rattle.jsp_machine.specs.Unmarking.{is_unmarked, cancelled, is_marked_by}
use Rattle.jsp_machine.proofs.OnOffer.{all_opened}
use Rattle.jsp_machine.proofs.Stirred.{both_let_go}
use Rattle.jsp_machine.proofs.offering.offer_let_go.Goals as goal

pub returns-then-may_free_any-clause-freed : goal.returns-then-may_free_any-clause-freed
returns-then-may_free_any-clause-freed c some = all_opened (frees c.args.state.now c.args.step.now) _ c.args.state.now.rows c.open.ensures

pub returns-then-not-is_known_empty-clause-freed : goal.returns-then-not-is_known_empty-clause-freed
returns-then-not-is_known_empty-clause-freed c some =
    let st = c.args.state.now in
    let act = c.args.step.now in
    let mid = c.offer_marked.new.offers in
    let marked = subst (λ (leases : List ℤ). list_all (λ (r : Row). not (is_marked_by leases r) || is_offered mid r.number) st.rows ≡ true) c.cancelled_by.ensures c.offer_marked.ensures.held in
    both_let_go st.rows (frees st act) (is_marked_by (cancelled act)) (λ (r : Row). option_map_or (λ u. is_unmarked u r) c.unmarked_by.result false) mid c.offer_if_held.new.offers c.unmarked_by.ensures c.offer_if_held.ensures.keeps marked c.offer_if_held.ensures.held
