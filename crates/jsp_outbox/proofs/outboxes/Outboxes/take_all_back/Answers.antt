use Rattle.std.proofs.Common.{◌∙◌, ap, sym}
use Rattle.jsp_outbox.specs.Outboxes.{before_all}
use Rattle.jsp_outbox.proofs.Posting.{before_all-push}
use Rattle.jsp_outbox.proofs.outboxes.Outboxes.take_all_back.Goals as goal

pub posts-preserved : goal.posts-preserved
posts-preserved c =
    ap (before_all c.pop.new.self.items) c.take_back.ensures ∙ sym (before_all-push c.pop.new.self.items c.in-Some.here c.posts.self)
    ∙ ap (λ w. before_all w c.posts.self) (sym c.in-Some.ensures.items)
    ∙ c.posts.invariant
