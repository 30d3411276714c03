use Rattle.std.proofs.Common.{◌≡◌, true, [], Some, None, ap, sym, subst, ◌∙◌, arith, rules}
use Rattle.std.specs.Prelude.{nat_eq, option_and_then}
use Rattle.std.specs.HashMap.{get}
use Rattle.std.proofs.lemmas.Grind.{common_steps}
use Rattle.jsp_model.specs.declared.state.Row.{Row}
use Rattle.jsp_model.specs.Changes.{published}
use Rattle.jsp_table.proofs.Finding.{each}
use Rattle.jsp_index.specs.Holding.{listed_in, is_in, IsHeld, AreHeld}
use Rattle.jsp_index.proofs.Holders.{is_publishing, publishing_listed, publishing_none}
use Rattle.jsp_index.proofs.Walks.{none_filter}
use Rattle.jsp_index.proofs.hinted.HintedRows.published.Goals as goal

pub returns-in_default : goal.returns-in_default
returns-in_default c =
    let holders = c.self.inside.holders in
    let x = c.args.x in
    let none : get nat_eq holders x ≡ None = first_of (search rules, grind (arith, common_steps)) in
    let nothing = none_filter (IsHeld holders) (is_publishing x) c.self.inside.rows c.self.invariant
    (λ r h. publishing_none holders x r h (ap (λ o. is_in (option_and_then (λ hs. listed_in hs r.space) o) r.number) none)) in
    let empty : c.new.result.items ≡ [] = first_of (search rules, grind (arith, common_steps)) in
    empty ∙ (sym nothing ∙ ap (published x) c.self.view_is)

pub rows_held-requires : goal.rows_held-requires
rows_held-requires c =
    let holders = c.self.inside.holders in
    let x = c.args.x in
    let hs = c.as_slice.result.now in
    let rows = c.keyed.result.now in
    let there : get nat_eq holders x ≡ Some hs = first_of (search rules, grind (arith, common_steps)) in
    let held : AreHeld holders rows = subst (AreHeld holders) (sym c.keyed.ensures) c.self.invariant in
    each (IsHeld holders) (λ (r : Row). is_publishing x r ≡ true → is_in (listed_in hs r.space) r.number ≡ true) rows held
    (λ r h p. sym (ap (λ o. is_in (option_and_then (λ hs. listed_in hs r.space) o) r.number) there) ∙ publishing_listed holders x r h p)
