-- Posting an answer, taking it back, and handing answers out, at the place of an outbox.
use Rattle.std.specs.Prelude.{ℕ, ◌-◌, List, [], ◌∷◌, ◌++◌, length, take, drop, nat_le, if◌then◌else◌, ◌==◌, find, remove, slice_get, slice_set, Option, Some, None}
use Rattle.std.specs.Option.{option_map_or}
use Rattle.jsp_reply.specs.declared.reply.Reply.{Reply}
use Rattle.jsp_model.specs.declared.state.Outbox.{Outbox}
use Rattle.jsp_outbox.specs.declared.post.Posted.{Posted}

-- the outbox without its last answer
abbrev pub without_last : Outbox → Outbox
without_last b = record b { answers = take (length b.answers - 1) b.answers }

abbrev pub without_last_of : List Outbox → ℕ → Option Outbox → List Outbox
without_last_of boxes place None = boxes
without_last_of boxes place (Some b) = if nat_le (length b.answers) 1 then remove boxes place else slice_set boxes place (without_last b)

-- the outboxes before the answer was posted: the one at its place without its last answer; an empty one goes
abbrev pub before : Posted → List Outbox → List Outbox
before p boxes = without_last_of boxes p.place (slice_get boxes p.place)

-- before all of these
abbrev pub before_all : List Posted → List Outbox → List Outbox
before_all [] boxes = boxes
before_all (p ∷ ps) boxes = before p (before_all ps boxes)

abbrev pub with_answer : Outbox → Reply → Outbox
with_answer b x = record b { answers = b.answers ++ x ∷ [] }

abbrev pub added_to : List Outbox → ℕ → Reply → Option Outbox → List Outbox
added_to boxes place x None = boxes
added_to boxes place x (Some b) = slice_set boxes place (with_answer b x)

-- the outbox at that place has one answer more
abbrev pub added : List Outbox → ℕ → Reply → List Outbox
added boxes place x = added_to boxes place x (slice_get boxes place)

abbrev pub answers_in : Option Outbox → List Reply
answers_in None = []
answers_in (Some b) = b.answers

abbrev pub answers_at : List Outbox → ℕ → List Reply
answers_at boxes place = answers_in (slice_get boxes place)

-- the answers that wait for the session
abbrev pub answers_for : ℕ → List Outbox → List Reply
answers_for s boxes = option_map_or (λ b. b.answers) (find (λ b. b.session == s) boxes) []

abbrev pub later_answers : Outbox → ℕ → Outbox
later_answers b count = record b { answers = drop count b.answers }

abbrev pub without_first_of : List Outbox → ℕ → ℕ → Option Outbox → List Outbox
without_first_of boxes place count None = boxes
without_first_of boxes place count (Some b) = if nat_le (length b.answers) count then remove boxes place else slice_set boxes place (later_answers b count)

-- the outbox at that place without its first answers; an empty one goes
abbrev pub without_first : List Outbox → ℕ → ℕ → List Outbox
without_first boxes place count = without_first_of boxes place count (slice_get boxes place)
