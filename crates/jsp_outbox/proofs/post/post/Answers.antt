use Rattle.std.proofs.Common.{◌≡◌, ◌≤◌, ◌≢◌, ◌∙◌, ap, sym, arith, length, []}
use Rattle.std.proofs.lemmas.Result.{IfOk-weaker}
use Rattle.std.proofs.lemmas.Bool.{leb-true}
use Rattle.std.proofs.lemmas.List.{get_or_read}
use Rattle.jsp_model.specs.declared.state.Outbox.{Outbox}
use Rattle.jsp_outbox.proofs.Order.{box_at}
use Rattle.jsp_outbox.proofs.Finding.{all_below, found_place, AreBelow}
use Rattle.jsp_outbox.proofs.Posting.{opened_ok, added_ok}
use Rattle.jsp_outbox.proofs.post.post.Goals as goal

pub returns-in-None-clause-ok : goal.returns-in-None-clause-ok
returns-in-None-clause-ok c =
    let boxes = c.args.queues.now.items in
    let none = all_below c.args.session boxes (rw c.as_slice.ensures.value at (sym c.first_from.ensures ∙ c.in-None.is)) in
    let same : c.len-place.result ≡ length boxes = c.len-place.ensures ∙ c.args.queues.now.ok.0 in
    let here : AreBelow c.args.session boxes c.len-place.result = rw same none in
    IfOk-weaker c.open.result _ _ (λ p h. opened_ok _ _ boxes _ _ p (omega arith) here (λ lt. absurd (omega arith)) h) c.open.ensures.ok

pub returns-then-session-clause-ok : goal.returns-then-session-clause-ok
returns-then-session-clause-ok c =
    let boxes = c.args.queues.now.items in
    let found = found_place c.args.session c.in-Some.place boxes (rw c.as_slice.ensures.value at (sym c.first_from.ensures ∙ c.in-Some.is)) in
    let read = get_or_read boxes c.in-Some.place c.index.result.now found.0 c.index.ensures (record { session = 0; answers = [] }) in
    let mine : (box_at boxes c.in-Some.place).session ≡ c.args.session = ap (λ (b : Outbox). b.session) (sym read) ∙ sym c.session.ensures ∙ c.if-session.true in
    IfOk-weaker c.add.result _ _ (λ p h. added_ok _ _ boxes _ _ p c.requires found.0 found.2 mine h) c.add.ensures.ok

pub returns-else-session-clause-ok : goal.returns-else-session-clause-ok
returns-else-session-clause-ok c =
    let boxes = c.args.queues.now.items in
    let found = found_place c.args.session c.in-Some.place boxes (rw c.as_slice.ensures.value at (sym c.first_from.ensures ∙ c.in-Some.is)) in
    let lt = found.0 in
    let read = get_or_read boxes c.in-Some.place c.index.result.now lt c.index.ensures (record { session = 0; answers = [] }) in
    let others : (box_at boxes c.in-Some.place).session ≢ c.args.session = λ e. c.if-session.false (c.session.ensures ∙ ap (λ (b : Outbox). b.session) read ∙ e) in
    let above : c.args.session ≤ (box_at boxes c.in-Some.place).session = leb-true _ _ found.1 in
    IfOk-weaker c.open-else-session.result _ _ (λ p h. opened_ok _ _ boxes _ _ p (omega arith) found.2 (λ l. omega (arith, others, above)) h) c.open-else-session.ensures.ok
