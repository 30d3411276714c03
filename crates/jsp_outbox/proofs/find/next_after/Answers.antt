use Rattle.std.proofs.Common.{◌∙◌, Some, ap, leb, rules}
use Rattle.std.proofs.lemmas.List.Sorted.{IsPartitionPoint-from_clause, IsPartitionedBy-leb}
use Rattle.jsp_model.specs.declared.state.Outbox.{Outbox}
use Rattle.jsp_outbox.proofs.Order.{sessions_rise}
use Rattle.jsp_outbox.proofs.Finding.{next_from, next_none}
use Rattle.jsp_outbox.proofs.find.next_after.Goals as goal

pub returns-then-place-queues : goal.returns-then-place-queues
returns-then-place-queues c =
    let parted = IsPartitionedBy-leb (λ (b : Outbox). b.session) c.args.queues.now c.args.session (sessions_rise c.args.queues.now c.requires) in
    ap Some c.session.ensures
    ∙ next_from c.args.session c.partition_point-place.result c.args.queues.now c.index-queues-place.result
    (IsPartitionPoint-from_clause (λ (b : Outbox). leb b.session c.args.session) _ _ c.partition_point-place.ensures.partitioned parted (λ a r q k. search rules)) c.if-place-queues.true c.index-queues-place.is

pub returns-else-place-queues : goal.returns-else-place-queues
returns-else-place-queues c =
    let parted = IsPartitionedBy-leb (λ (b : Outbox). b.session) c.args.queues.now c.args.session (sessions_rise c.args.queues.now c.requires) in
    next_none c.args.session c.partition_point-place.result c.args.queues.now
    (IsPartitionPoint-from_clause (λ (b : Outbox). leb b.session c.args.session) _ _ c.partition_point-place.ensures.partitioned parted (λ a r q k. search rules)) c.if-place-queues.false
