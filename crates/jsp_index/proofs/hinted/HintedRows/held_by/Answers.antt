use Rattle.std.proofs.Common.{◌≡◌, true, not, ◌||◌, ◌&&◌, Some, None, ap, sym, subst, true≢false, ◌∙◌, arith, rules}
use Rattle.std.specs.Prelude.{nat_eq, option_and_then}
use Rattle.std.specs.List.{list_all}
use Rattle.std.specs.HashMap.{get}
use Rattle.std.proofs.lemmas.Grind.{common_steps}
use Rattle.std.proofs.lemmas.Result.{IfOk-weaker}
use Rattle.jsp_model.specs.declared.state.Row.{Row}
use Rattle.jsp_model.specs.Lookup.{contains as has}
use Rattle.jsp_sight.specs.Rows.{is_of, is_held}
use Rattle.jsp_index.specs.Holding.{listed_in, is_in}
use Rattle.jsp_index.proofs.Holders.{held_all}
use Rattle.jsp_index.proofs.hinted.HintedRows.held_by.Goals as goal

pub returns-in-None : goal.returns-in-None
returns-in-None c =
    let holders = c.self.inside.holders in
    let x = c.args.x in
    let none : get nat_eq holders x ≡ None = first_of (search rules, grind (arith, common_steps)) in
    let all = held_all holders x c.new.result.items (is_of c.args.space)
    (λ r k e. absurd (true≢false (sym e ∙ ap (λ o. is_in (option_and_then (λ hs. listed_in hs r.space) o) r.number) none))) c.self.inside.rows c.self.invariant in
    subst (λ rows. list_all (λ (r : Row). not (is_of c.args.space r && is_held x r) || has c.new.result.items r.number) rows ≡ true) c.self.view_is all

pub returns-in-Some : goal.returns-in-Some
returns-in-Some c =
    let holders = c.self.inside.holders in
    let x = c.args.x in
    let hs = c.as_slice.result.now in
    let there : get nat_eq holders x ≡ Some hs = first_of (search rules, grind (arith, common_steps)) in
    IfOk-weaker c.numbers_in.result _ _
    (λ v listed. subst (λ rows. list_all (λ (r : Row). not (is_of c.args.space r && is_held x r) || has v.items r.number) rows ≡ true) c.self.view_is
    (held_all holders x v.items (is_of c.args.space) (λ r k e. listed r k (sym (ap (λ o. is_in (option_and_then (λ hs. listed_in hs r.space) o) r.number) there) ∙ e)) c.self.inside.rows c.self.invariant)) c.numbers_in.ensures
