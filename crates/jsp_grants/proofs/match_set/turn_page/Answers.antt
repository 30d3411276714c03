use Rattle.std.proofs.Common.{◌∙◌, ℕ, ap}
use Rattle.jsp_model.specs.Changes.{turn_page}
use Rattle.jsp_grants.specs.Paging.{with_cursor}
use Rattle.jsp_grants.proofs.match_set.turn_page.Goals as goal

pub returns : goal.returns
returns c =
    let st = c.args.state.now in
    c.turn_to.ensures ∙ (ap (with_cursor st c.number_of-number.result) c.last_of_page-last.ensures ∙ ap (λ (n : ℕ). turn_page st n c.args.most.now) c.number_of-number.ensures)
