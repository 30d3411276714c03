use Rattle.std.proofs.Common.{◌≡◌, length, fold}
use Rattle.std.specs.Vec.Iter.{into_iter_items}
use Rattle.jsp_model.specs.Outboxes.{post}
use Rattle.jsp_outbox.specs.Outboxes.{before_all}
use Rattle.jsp_outbox.proofs.outboxes.Outboxes.post_all.Given as goal

abbrev pub invariant-sayings : goal.invariant-sayings
invariant-sayings l = record {
  told : fold post l.self (into_iter_items l.rest) ≡ fold post l.initial.self (into_iter_items l.initial.rest);
  back : before_all l.posts.items l.self ≡ l.initial.self;
}

abbrev pub decreases-sayings : goal.decreases-sayings
decreases-sayings l = length (into_iter_items l.rest)
