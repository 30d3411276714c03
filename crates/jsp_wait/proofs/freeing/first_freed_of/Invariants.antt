use Rattle.std.proofs.Common.{take, option_copied}
use Rattle.std.specs.List.{list_any}
use Rattle.jsp_keyed.specs.Finding.{IsLeast}
use Rattle.jsp_wait.specs.Offered.{takes_one, freed_numbered}
use Rattle.jsp_wait.proofs.Least.{number}
use Rattle.jsp_wait.proofs.freeing.first_freed_of.Given as goal

abbrev pub invariant-numbers : goal.invariant-numbers
invariant-numbers g l =
    let taker = freed_numbered (g.O.Offer.is_freed l.offer) in
    IsLeast number (takes_one taker l.space l.numbers) (λ b. list_any (λ n. taker n b) (take l.number-index l.numbers)) l.requests (option_copied l.first)
