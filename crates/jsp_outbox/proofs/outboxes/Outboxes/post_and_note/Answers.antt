use Rattle.std.proofs.Common.{◌∙◌, ap}
use Rattle.jsp_outbox.specs.Outboxes.{before_all}
use Rattle.jsp_outbox.proofs.Posting.{before_all-push}
use Rattle.jsp_outbox.proofs.outboxes.Outboxes.post_and_note.Goals as goal

pub returns-in-Ok-clause-back : goal.returns-in-Ok-clause-back
returns-in-Ok-clause-back c =
    ap (λ w. before_all w c.post.new.self) c.in-Ok.ensures.items ∙ before_all-push c.args.posts.now.items c.in_ok-here.here c.post.new.self
    ∙ ap (before_all c.args.posts.now.items) c.in_ok-here.ensures.ok.1
