use Rattle.std.proofs.Common.{◌≡◌, ℕ, ◌+◌, ◌<◌, List, length, take, option_copied, sym, subst, arith}
use Rattle.std.specs.Prelude.{slice_index}
use Rattle.std.specs.List.{list_any}
use Rattle.std.proofs.lemmas.List.{take_all}
use Rattle.jsp_keyed.specs.Finding.{IsLeast}
use Rattle.jsp_keyed.proofs.Least.{least_of_both, least_first}
use Rattle.jsp_wait.specs.Offered.{takes_one, freed_numbered}
use Rattle.jsp_wait.proofs.Least.{number, one_of_them, split_more, all_of_kind}
use Rattle.jsp_wait.proofs.freeing.first_freed_of.Goals as goal

pub numbers-preserved : goal.numbers-preserved
numbers-preserved g c =
    let taker = freed_numbered (g.O.Offer.is_freed c.args.offer.now) in
    let space = c.args.space in
    let ns = c.args.numbers.now in
    let i = c.numbers.number-index in
    let requests = c.args.requests.now in
    let p = takes_one taker space ns in
    let lt : i < length ns = c.numbers-test.true in
    let one = one_of_them taker space ns i requests c.places.ensures.rising lt in
    subst (IsLeast number p (λ b. list_any (λ n. taker n b) (take (i + 1) ns)) requests) (sym c.lesser-first.ensures)
    (least_of_both number p (λ b. list_any (λ n. taker n b) (take i ns)) (λ b. taker (slice_index ns i) b) (λ b. list_any (λ n. taker n b) (take (i + 1) ns)) requests (option_copied c.numbers.first) (option_copied c.freed_at.result)
    (λ b h. split_more taker space ns i b lt h) c.numbers.invariant
    (subst (IsLeast number p (λ b. taker (slice_index ns i) b) requests) (sym c.freed_at.ensures) one))

pub returns : goal.returns
returns g c =
    let taker = freed_numbered (g.O.Offer.is_freed c.args.offer.now) in
    let space = c.args.space in
    let ns = c.args.numbers.now in
    let i = c.numbers.number-index in
    let requests = c.args.requests.now in
    let p = takes_one taker space ns in
    let found = option_copied c.numbers.first in
    let all : take i ns ≡ ns = take_all i ns (omega (arith, c.numbers-test.false)) in
    least_first number p (λ b. list_any (λ n. taker n b) ns) requests found c.places.ensures.rising (all_of_kind taker space ns)
    (subst (λ (w : List ℕ). IsLeast number p (λ b. list_any (λ n. taker n b) w) requests found) all c.numbers.invariant)
