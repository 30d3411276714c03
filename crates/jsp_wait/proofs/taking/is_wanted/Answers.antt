use Rattle.std.proofs.Common.{◌≡◌, ◌∙◌, ap, rules}
use Rattle.std.specs.Prelude.{is_some, option_copied}
use Rattle.jsp_keyed.proofs.Placed.{any_is}
use Rattle.jsp_wait.proofs.taking.is_wanted.Goals as goal

pub returns : goal.returns
returns g c =
    let some : c.is_some.result ≡ is_some (option_copied c.first_taker_of.result) = search rules in
    some ∙ (ap is_some c.first_taker_of.ensures ∙ any_is (g.O.Offer.is_taker c.args.offer.now c.args.number) c.args.requests.now)
