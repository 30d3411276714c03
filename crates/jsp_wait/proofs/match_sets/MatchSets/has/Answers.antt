use Rattle.std.proofs.Common.{◌≡◌, ◌∙◌, ap, List, rules}
use Rattle.std.specs.Prelude.{is_some, option_copied, ◌==◌}
use Rattle.std.specs.List.{list_any}
use Rattle.jsp_model.specs.declared.state.MatchSet.{MatchSet}
use Rattle.jsp_keyed.proofs.Placed.{any_is}
use Rattle.jsp_wait.proofs.match_sets.MatchSets.has.Goals as goal

pub returns : goal.returns
returns c =
    let p = λ (m : MatchSet). m.number == c.args.number in
    let some : c.is_some.result ≡ is_some (option_copied c.get.result) = search rules in
    some ∙ (ap is_some c.get.ensures ∙ (any_is p c.self.inside.list ∙ ap (λ (w : List MatchSet). list_any p w) c.self.view_is))
