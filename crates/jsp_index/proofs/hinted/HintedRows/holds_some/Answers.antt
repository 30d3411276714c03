use Rattle.std.proofs.Common.{◌≡◌, ◌&&◌, Some, None, ap, sym, subst, ◌∙◌, arith, rules}
use Rattle.std.specs.Prelude.{filter, is_some, option_copied}
use Rattle.std.specs.List.{list_any}
use Rattle.std.proofs.lemmas.Grind.{common_steps}
use Rattle.jsp_model.specs.declared.state.Row.{Row}
use Rattle.jsp_table.specs.Numbers.{contains}
use Rattle.jsp_index.specs.Finding.{is_next}
use Rattle.jsp_index.specs.Holding.{listed, is_in, IsHeld, AreHeld}
use Rattle.jsp_index.proofs.Holders.{is_holding, holding_listed, holding_none}
use Rattle.jsp_index.proofs.Single.{any_found}
use Rattle.jsp_index.proofs.Walks.{named_filter, none_filter, any_empty, any_same}
use Rattle.jsp_index.proofs.hinted.HintedRows.holds_some.Goals as goal

pub returns-in_default : goal.returns-in_default
returns-in_default c =
    let holders = c.self.inside.holders in
    let x = c.args.x in
    let p = is_holding x c.args.space in
    let none : listed holders x c.args.space ≡ None = first_of (search rules, grind (arith, common_steps)) in
    let nothing = none_filter (IsHeld holders) p c.self.inside.rows c.self.invariant (λ r h. holding_none holders x c.args.space r h (ap (λ o. is_in o r.number) none)) in
    sym (any_empty p c.args.self.now (ap (filter p) (sym c.self.view_is) ∙ nothing))

pub returns : goal.returns
returns c =
    let holders = c.self.inside.holders in
    let x = c.args.x in
    let p = is_holding x c.args.space in
    let ns = c.in-Some.numbers.now in
    let rows = c.keyed-rows.result.now in
    let q = is_next (λ (r : Row). contains ns r.number && p r) 0 in
    let there : listed holders x c.args.space ≡ Some ns = first_of (search rules, grind (arith, common_steps)) in
    let held : AreHeld holders rows = subst (AreHeld holders) (sym c.keyed-rows.ensures) c.self.invariant in
    let all = named_filter (IsHeld holders) p (λ (r : Row). contains ns r.number) rows c.places.ensures.positive held
    (λ r h k. sym (ap (λ o. is_in o r.number) there) ∙ holding_listed holders x c.args.space r h k) in
    let some : c.is_some.result ≡ is_some (option_copied c.first_named.result) = search rules in
    some ∙ (ap is_some c.first_named.ensures.found ∙ (any_found q rows ∙ (any_same q p rows all ∙ ap (list_any p) (c.keyed-rows.ensures ∙ c.self.view_is))))
