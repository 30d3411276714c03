use Rattle.std.proofs.Common.{◌∙◌, sym, ap, length, []}
use Rattle.std.proofs.lemmas.List.{get_or_read}
use Rattle.jsp_outbox.proofs.Handing.{handed_none, found_at, waiting_at}
use Rattle.jsp_outbox.proofs.find.waiting.Goals as goal

pub returns-in-None : goal.returns-in-None
returns-in-None c = sym (ap length (handed_none c.args.queues.now c.args.session 0 c.requires (sym c.place_of.ensures ∙ c.in-None.is)).1)

pub returns-in-Some : goal.returns-in-Some
returns-in-Some c =
    let boxes = c.args.queues.now in
    let place = sym c.place_of.ensures ∙ c.in-Some.is in
    let lt = found_at c.args.session c.in-Some.place boxes place in
    let read = get_or_read boxes c.in-Some.place c.index-queues-place.result lt c.index-queues-place.is (record { session = 0; answers = [] }) in
    c.len.ensures ∙ waiting_at boxes c.args.session c.in-Some.place c.index-queues-place.result place lt read
