use Rattle.std.proofs.Common.{◌≡◌, vec_len}
use Rattle.jsp_outbox.specs.Outboxes.{before_all}
use Rattle.jsp_outbox.proofs.outboxes.Outboxes.take_all_back.Given as goal

abbrev pub invariant-posts : goal.invariant-posts
invariant-posts l = before_all l.posts.items l.self ≡ before_all l.initial.posts.items l.initial.self

abbrev pub decreases-posts : goal.decreases-posts
decreases-posts l = vec_len l.posts
