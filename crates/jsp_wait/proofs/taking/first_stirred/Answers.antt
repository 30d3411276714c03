use Rattle.std.proofs.Common.{◌||◌, option_copied, sym, ◌∙◌, subst}
use Rattle.std.specs.List.{list_any}
use Rattle.jsp_keyed.specs.Finding.{IsLeast}
use Rattle.jsp_keyed.proofs.Least.{least_of_both, least_first}
use Rattle.jsp_wait.specs.Offered.{freed_among, waits_no_more}
use Rattle.jsp_wait.proofs.Least.{number, taker_part, freed_part, either_part, all_stirred}
use Rattle.jsp_wait.proofs.taking.first_stirred.Goals as goal

pub returns : goal.returns
returns g c =
    let taker = g.O.Offer.is_taker c.args.offer.now in
    let freed = freed_among (g.O.Offer.is_freed c.args.offer.now) (option_copied c.args.among) in
    let space = c.args.space in
    let ns = c.args.numbers.now in
    let requests = c.args.requests.now in
    let up = c.places.ensures.rising in
    let p = waits_no_more taker freed space ns in
    let a = option_copied c.first_taker-taker.result in
    let b = option_copied c.first_freed-freed.result in
    let one = subst (IsLeast number p (λ b. list_any (λ n. taker n b) ns) requests) (sym c.first_taker-taker.ensures) (taker_part taker space freed ns requests up) in
    let other = subst (IsLeast number p freed requests) (sym c.first_freed-freed.ensures) (freed_part taker space freed ns requests up) in
    let both = least_of_both number p (λ b. list_any (λ n. taker n b) ns) freed (λ b. list_any (λ n. taker n b) ns || freed b) requests a b (either_part taker space freed ns) one other in
    c.lesser.ensures ∙ least_first number p (λ b. list_any (λ n. taker n b) ns || freed b) requests _ up (all_stirred taker space freed ns) both
