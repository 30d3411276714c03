use Rattle.std.proofs.Common.{◌≡◌, ◌∙◌, ap, rules}
use Rattle.std.specs.Prelude.{is_some, option_copied}
use Rattle.jsp_keyed.proofs.Placed.{any_is}
use Rattle.jsp_wait.specs.Offered.{freed_numbered}
use Rattle.jsp_wait.proofs.freeing.is_freed.Goals as goal

pub returns : goal.returns
returns g c =
    let some : c.is_some.result ≡ is_some (option_copied c.first_freed_numbered.result) = search rules in
    some ∙ (ap is_some c.first_freed_numbered.ensures ∙ any_is (freed_numbered (g.O.Offer.is_freed c.args.offer.now) c.args.number) c.args.requests.now)
