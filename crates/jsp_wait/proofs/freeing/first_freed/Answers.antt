use Rattle.std.proofs.Common.{◌∙◌, ◌&&◌, ℕ, List, Option, None, ap, sym, option_copied}
use Rattle.std.specs.Prelude.{find, ◌==◌}
use Rattle.jsp_model.specs.declared.state.Blocked.{Blocked}
use Rattle.jsp_keyed.proofs.Walking.{start_find}
use Rattle.jsp_wait.specs.Offered.{freed_among}
use Rattle.jsp_wait.proofs.Least.{number}
use Rattle.jsp_wait.proofs.freeing.first_freed.Goals as goal

pub returns-in-None : goal.returns-in-None
returns-in-None g c =
    let freed = g.O.Offer.is_freed c.args.offer.now in
    let of = λ (among : Option (List ℕ)). find (λ (b : Blocked). b.space == c.args.space && freed_among freed among b) c.args.requests.now in
    c.first_above.ensures.found ∙ (start_find number (λ (b : Blocked). b.space == c.args.space && freed_among freed None b) c.args.requests.now c.first_above.ensures.positive
    ∙ ap of (sym (ap option_copied c.in-None.is)))
