use Rattle.std.proofs.Common.{List, [], ◌∷◌, map, ap, ◌∙◌}
use Rattle.std.specs.Prelude.{filter}
use Rattle.std.specs.List.{AllByRecursion}
use Rattle.jsp_model.specs.declared.state.Row.{Row}
use Rattle.jsp_model.specs.Lookup.{contains as has}
use Rattle.jsp_table.specs.Numbers.{contains}
use Rattle.jsp_index.proofs.Walks.{named_filter}
use Rattle.jsp_index.proofs.hinted.HintedRows.entries_of.Goals as goal

pub returns : goal.returns
returns c =
    let rows = c.keyed.result.now in
    let numbers = c.args.numbers.now in
    let p = λ (r : Row). has numbers r.number in
    let up = c.in_ok-entries.ensures.positive in
    let all = named_filter (λ r. Unit {0}) p (λ (r : Row). contains c.in_ok-named.named r.number) rows up (known rows) (λ r t h. c.in_ok-named.ensures r.number h) in
    c.in_ok-entries.ensures.found ∙ ap (map (λ (r : Row). r.entry)) (all ∙ ap (filter p) (c.keyed.ensures ∙ c.self.view_is)) where
      known : (rows : List Row) → AllByRecursion (λ (r : Row). Unit {0}) rows
      known [] = tt
      known (r ∷ rows) = (tt, known rows)
