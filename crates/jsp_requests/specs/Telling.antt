-- What waiting requests are told, of lists of them.
use Rattle.std.specs.Prelude.{ℕ, Bool, ◌&&◌, ◌==◌, if◌then◌else◌, List, map, filter, Some, is_some}
use Rattle.jsp_reply.specs.declared.reply.Reply.{Reply}
use Rattle.jsp_reply.specs.declared.reply.Reply.TheVariants as says
use Rattle.jsp_reply.specs.declared.refusal.Refusal.{Refusal}
use Rattle.jsp_reply.specs.declared.refusal.Refusal.TheVariants.{CrashCount}
use Rattle.jsp_model.specs.declared.state.Blocked.{Blocked}
use Rattle.jsp_model.specs.declared.state.Commit.{Commit}
use Rattle.jsp_model.specs.Answers.{Saying, aborted_reply}
use Rattle.jsp_wait.specs.declared.waiters.Asker.{Asker}

-- each is refused so
abbrev pub all_refused : Refusal → List Asker → List Saying
all_refused refusal askers = map (λ (a : Asker). (a.session, says.Refused (Some a.id) refusal)) askers

-- those of these that are under a transaction at the space
abbrev pub at_space_refused : ℕ → List Blocked → List Saying
at_space_refused space blocked = map (λ b. (b.session, says.Refused (Some b.id) CrashCount)) (filter (λ b. b.space == space && is_some b.transaction) blocked)

-- the answer to a commit that is decided
abbrev pub decision : Bool → ℕ → Reply
decision commits id = if commits then says.Done id else aborted_reply id

-- those of these commits that are of the transaction are answered
abbrev pub commits_answered : ℕ → Bool → List Commit → List Saying
commits_answered x done commits = map (λ c. (c.session, decision done c.id)) (filter (λ c. c.transaction == x) commits)
