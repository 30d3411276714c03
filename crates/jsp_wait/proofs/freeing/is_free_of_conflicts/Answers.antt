use Rattle.std.proofs.Common.{◌≡◌, ◌∙◌, ◌&&◌, ap, rules}
use Rattle.std.specs.Prelude.{is_none, option_copied, ◌==◌}
use Rattle.jsp_model.specs.declared.state.Blocked.{Blocked}
use Rattle.jsp_model.specs.Sight.{is_if}
use Rattle.jsp_keyed.proofs.Walking.{start_find}
use Rattle.jsp_wait.proofs.Least.{number}
use Rattle.jsp_wait.proofs.Numbered.{none_is}
use Rattle.jsp_wait.proofs.freeing.is_free_of_conflicts.Goals as goal

pub returns : goal.returns
returns c =
    let p = λ (b : Blocked). b.space == c.args.space && is_if b.form in
    let none : c.is_none.result ≡ is_none (option_copied c.first_above.result) = search rules in
    none ∙ (ap is_none (c.first_above.ensures.found ∙ start_find number p c.args.requests.now c.first_above.ensures.positive) ∙ none_is p c.args.requests.now)
