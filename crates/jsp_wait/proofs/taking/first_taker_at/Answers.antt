use Rattle.std.proofs.Common.{◌∙◌, sym}
use Rattle.jsp_sight.specs.Rows.{unmarked}
use Rattle.jsp_keyed.proofs.Walking.{start_find}
use Rattle.jsp_wait.proofs.Seeking.{asked_for}
use Rattle.jsp_wait.proofs.Least.{number, asked_here, asked_at, not_asked, all_there, none_there}
use Rattle.jsp_wait.proofs.taking.first_taker_at.Goals as goal

pub returns-in-None : goal.returns-in-None
returns-in-None g c =
    let o = c.args.offer.now in
    let n = c.args.number in
    none_there (g.O.Offer.is_taker o n) c.args.space c.args.requests.now (λ b h. absurd (not_asked (g.O.Offer.classes_of o) (g.O.Offer.row_of o n) b c.in-None.ensures (c.requires n b h)))

pub returns-then-row-space : goal.returns-then-row-space
returns-then-row-space g c =
    let o = c.args.offer.now in
    let n = c.args.number in
    let classes = g.O.Offer.classes_of o in
    none_there (g.O.Offer.is_taker o n) c.args.space c.args.requests.now
    (λ b h e. c.if-row-space.true (asked_at classes b c.in-Some.row.now (asked_here classes (g.O.Offer.row_of o n) (unmarked c.in-Some.row.now) b c.in-Some.ensures (c.requires n b h)) ∙ e))

pub first_matching-requires : goal.first_matching-requires
first_matching-requires g c = λ seed b h.
    let o = c.args.offer.now in
    let n = c.args.number in
    let classes = g.O.Offer.classes_of o in
    asked_for seed classes b c.in-Some.row.now (asked_here classes (g.O.Offer.row_of o n) (unmarked c.in-Some.row.now) b c.in-Some.ensures (c.requires n b h))

pub returns-else-row-space : goal.returns-else-row-space
returns-else-row-space g c =
    let o = c.args.offer.now in
    let n = c.args.number in
    let classes = g.O.Offer.classes_of o in
    c.first_matching.ensures.found ∙ (start_find number (g.O.Offer.is_taker o n) c.args.requests.now c.first_matching.ensures.positive
    ∙ all_there (g.O.Offer.is_taker o n) c.args.space c.args.requests.now
    (λ b h. sym (asked_at classes b c.in-Some.row.now (asked_here classes (g.O.Offer.row_of o n) (unmarked c.in-Some.row.now) b c.in-Some.ensures (c.requires n b h))) ∙ c.if-row-space.false))
