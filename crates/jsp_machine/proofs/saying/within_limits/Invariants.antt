use Rattle.std.proofs.Common.{◌≡◌, ◌++◌, length}
use Rattle.std.specs.Prelude.{IsTrue}
use Rattle.std.specs.List.{list_all}
use Rattle.std.specs.Vec.Iter.{into_iter_items}
use Rattle.jsp_reply.specs.Limits.{is_within_limits}
use Rattle.jsp_model.specs.Answers.{Saying}
use Rattle.jsp_machine.proofs.saying.within_limits.Given as goal

abbrev pub invariant-replies : goal.invariant-replies
invariant-replies l = record {
  all : l.sayings.items ++ into_iter_items l.rest ≡ l.fn.replies.items;
  fit : IsTrue (list_all (λ (a : Saying). is_within_limits a.1) (into_iter_items l.rest));
}

abbrev pub decreases-replies : goal.decreases-replies
decreases-replies l = length (into_iter_items l.rest)
