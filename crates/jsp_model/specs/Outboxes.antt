-- What was said to the sessions and isn't handed out yet.
use Rattle.std.specs.Prelude.{ℕ, if◌then◌else◌, ◌==◌, nat_lt, List, [], ◌∷◌, ◌++◌, length, filter, find, drop}
use Rattle.std.specs.Option.{option_map_or}
use Rattle.jsp_reply.specs.declared.reply.Reply.{Reply}
use Rattle.jsp_model.specs.declared.state.State.{State}
use Rattle.jsp_model.specs.declared.state.Outbox.{Outbox}
use Rattle.jsp_model.specs.Lookup.{update}
use Rattle.jsp_model.specs.Answers.{Saying}

-- what is said to a session goes to the end of its outbox
abbrev pub post : List Outbox → Saying → List Outbox
post [] a = record { session = a.0; answers = a.1 ∷ [] } ∷ []
post (b ∷ boxes) a =
    if b.session == a.0 then record b { answers = b.answers ++ a.1 ∷ [] } ∷ boxes
    else if nat_lt a.0 b.session then record { session = a.0; answers = a.1 ∷ [] } ∷ b ∷ boxes
    else b ∷ post boxes a

-- the first n answers go; no box stays empty
abbrev pub hand_out : ℕ → ℕ → List Outbox → List Outbox
hand_out s n boxes =
    filter (λ b. nat_lt 0 (length b.answers)) (update (λ b. b.session == s) (λ (b : Outbox). record b { answers = drop n b.answers }) boxes)

abbrev pub outbox_of : State → ℕ → List Reply
outbox_of st s = option_map_or (λ b. b.answers) (find (λ b. b.session == s) st.outboxes) []
