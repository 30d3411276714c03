use Rattle.std.proofs.Common.{◌≡◌, rules}
use Rattle.std.specs.Prelude.{◌==◌, not, is_some, option_copied}
use Rattle.jsp_model.specs.declared.state.Blocked.{Blocked}
use Rattle.jsp_model.specs.Quiet.{must_wait}
use Rattle.jsp_state.proofs.Unsatisfied.{none_is}
use Rattle.jsp_state.proofs.quiet.all_wait.Goals as goal

pub returns : goal.returns
returns c =
    let none : is_some (option_copied c.first_answerable.result) ≡ not c.is_none.result = search rules in
    none_is (λ (b : Blocked). b.space == c.args.space) (must_wait c.args.image.now) _ (option_copied c.first_answerable.result) _ none c.first_answerable.ensures
