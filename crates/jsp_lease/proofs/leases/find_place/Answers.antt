use Rattle.std.proofs.Common.{Ok, Err, ◌∙◌, sym, arith}
use Rattle.jsp_lease.proofs.Standing.{only_place, nowhere, gone, search_found}
use Rattle.jsp_lease.proofs.leases.find_place.Goals as goal

pub returns-clause-some : goal.returns-clause-some
returns-clause-some c =
    let found = search_found c.args.numbers.now c.args.tournament.now c.args.number c.requires (Ok c.in-Ok.place) c.in-Ok.ensures.position in
    record { in_range = omega arith; there = sym c.get.ensures ∙ c.in_ok-item.was; only = only_place c.args.numbers.now c.args.tournament.now c.args.number c.in-Ok.place c.requires found.0 found.1 }

pub returns-in_default-clause-none : goal.returns-in_default-clause-none
returns-in_default-clause-none c =
    nowhere c.args.numbers.now c.args.tournament.now c.args.number c.requires
    (search_found c.args.numbers.now c.args.tournament.now c.args.number c.requires (Err c.in_default.field-0) c.in_default.ensures.position)

pub returns-in_err-item-clause-none : goal.returns-in_err-item-clause-none
returns-in_err-item-clause-none c =
    let found = search_found c.args.numbers.now c.args.tournament.now c.args.number c.requires (Ok c.in-Ok.place) c.in-Ok.ensures.position in
    rw c.from_residual.ensures (gone c.args.numbers.now c.args.tournament.now c.args.number c.in-Ok.place c.requires found.0 found.1 (sym c.get.ensures ∙ c.in_err-item.was))
