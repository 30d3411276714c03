use Rattle.std.proofs.Common.{◌≢◌, ◌∙◌, ap, sym, []}
use Rattle.std.proofs.lemmas.List.{get_or_read}
use Rattle.jsp_model.specs.declared.state.Outbox.{Outbox}
use Rattle.jsp_outbox.proofs.Order.{box_at}
use Rattle.jsp_outbox.proofs.Finding.{mine_none, mine_found, mine_other, found_place}
use Rattle.jsp_outbox.proofs.find.place_of.Goals as goal

pub returns-in-None : goal.returns-in-None
returns-in-None c = mine_none c.args.session c.args.queues.now (sym c.in-None.is ∙ c.first_from.ensures)

pub returns-then-session : goal.returns-then-session
returns-then-session c =
    let boxes = c.args.queues.now in
    let at = sym c.in-Some.is ∙ c.first_from.ensures in
    let lt = (found_place c.args.session c.in-Some.place boxes (sym at)).0 in
    let read = get_or_read boxes c.in-Some.place c.index-queues-place.result lt c.index-queues-place.is (record { session = 0; answers = [] }) in
    mine_found c.args.session c.in-Some.place boxes at (ap (λ (b : Outbox). b.session) (sym read) ∙ sym c.session.ensures ∙ c.if-session.true)

pub returns-else-session : goal.returns-else-session
returns-else-session c =
    let boxes = c.args.queues.now in
    let at = sym c.in-Some.is ∙ c.first_from.ensures in
    let lt = (found_place c.args.session c.in-Some.place boxes (sym at)).0 in
    let read = get_or_read boxes c.in-Some.place c.index-queues-place.result lt c.index-queues-place.is (record { session = 0; answers = [] }) in
    let other : (box_at boxes c.in-Some.place).session ≢ c.args.session = λ e. c.if-session.false (c.session.ensures ∙ ap (λ (b : Outbox). b.session) read ∙ e) in
    mine_other c.args.session c.in-Some.place boxes c.requires at other
