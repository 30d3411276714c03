use Rattle.std.proofs.Common.{◌≡◌, ◌==◌, ◌||◌, ◌∙◌, ℕ, not, true, ap, sym, subst}
use Rattle.std.specs.List.{list_all}
use Rattle.jsp_model.specs.Lookup.{named}
use Rattle.jsp_machine.specs.Stirring.{are_named_for}
use Rattle.jsp_model.specs.declared.state.Row.{Row}
use Rattle.jsp_quiet.specs.Waking.{is_marked}
use Rattle.jsp_machine.specs.Unmarking.{is_unmarked}
use Rattle.jsp_machine.proofs.Stirred.{both_named, named_as, everywhere}
use Rattle.jsp_machine.proofs.stirring.stir_for_lease.Goals as goal

pub returns-clause-stirred : goal.returns-clause-stirred
returns-clause-stirred c =
    let st = c.args.state.now in
    let n = named c.args.lease.now in
    let u = c.unmarked_everywhere.result in
    let mid = c.stir_unmarked.new.stirred in
    let new = c.stir_for.new.stirred in
    named_as st (λ (r : Row). is_marked n r || r.number == n) (λ (r : Row). is_unmarked u r || r.number == n) new
    (λ r. ap (λ b. b || r.number == n) (sym (everywhere u n r c.unmarked_everywhere.ensures.space (c.unmarked_everywhere.ensures.transaction ∙ c.number_of-number.ensures))))
    (both_named st (is_unmarked u) (λ (r : Row). r.number == n) mid new c.stir_for.ensures.keeps c.stir_unmarked.ensures.stirred (subst (λ (m : ℕ). list_all (λ (r : Row). not (r.number == m) || are_named_for st new r) st.rows ≡ true) c.number_of-number.ensures c.stir_for.ensures.stirred))
