use Rattle.std.proofs.Common.{◌∙◌}
use Rattle.jsp_sight.specs.Rows.{unmarked}
use Rattle.jsp_keyed.proofs.Walking.{start_find}
use Rattle.jsp_wait.proofs.Seeking.{asked_for}
use Rattle.jsp_wait.proofs.Least.{number, asked_here, not_asked, none_passes_at_all}
use Rattle.jsp_wait.proofs.taking.first_taker_of.Goals as goal

pub first_matching-requires : goal.first_matching-requires
first_matching-requires g c = λ seed b h.
    let o = c.args.offer.now in
    let n = c.args.number in
    let classes = g.O.Offer.classes_of o in
    asked_for seed classes b c.in-Some.row.now (asked_here classes (g.O.Offer.row_of o n) (unmarked c.in-Some.row.now) b c.in-Some.ensures (c.requires n b h))

pub returns-in-None : goal.returns-in-None
returns-in-None g c =
    let o = c.args.offer.now in
    let n = c.args.number in
    none_passes_at_all (g.O.Offer.is_taker o n) c.args.requests.now (λ b h. not_asked (g.O.Offer.classes_of o) (g.O.Offer.row_of o n) b c.in-None.ensures (c.requires n b h))

pub returns-in-Some : goal.returns-in-Some
returns-in-Some g c = c.first_matching.ensures.found ∙ start_find number (g.O.Offer.is_taker c.args.offer.now c.args.number) c.args.requests.now c.first_matching.ensures.positive
