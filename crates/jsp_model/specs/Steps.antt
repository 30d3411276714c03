-- Which steps are legal, and the state after one.
use Rattle.std.specs.Prelude.{ℕ, Bool, true, false, not, if◌then◌else◌, ◌&&◌, ◌==◌, nat_lt, nat_le, min, max, List, [], ◌∷◌, length, fold, Option, Some, None, is_some, is_none}
use Rattle.std.specs.List.{list_any, list_all}
use Rattle.std.specs.Option.{option_map_or}
use Rattle.jsp_wire.specs.declared.ask.Ask.{Ask}
use Rattle.jsp_reply.specs.declared.refusal.Refusal.{Refusal}
use Rattle.jsp_reply.specs.declared.refusal.Refusal.TheVariants.{BadJson, BadRequest, TooLong}
use Rattle.jsp_model.specs.declared.state.State.{State}
use Rattle.jsp_model.specs.declared.state.Outbox.{Outbox}
use Rattle.jsp_model.specs.declared.state.Blocked.{Blocked}
use Rattle.jsp_model.specs.declared.state.Joined.{Joined}
use Rattle.jsp_model.specs.declared.state.Vote.{Vote}
use Rattle.jsp_model.specs.declared.state.Vote.TheVariants as vote
use Rattle.jsp_model.specs.declared.step.Step.{Step}
use Rattle.jsp_model.specs.declared.step.Step.TheVariants as step
use Rattle.jsp_model.specs.Lookup.{contains, is_open, blocked_of, registration_of, is_voting, joined_of, joined_at}
use Rattle.jsp_model.specs.Sight.{is_if, available, has_conflict}
use Rattle.jsp_model.specs.Quiet.{are_quiet}
use Rattle.jsp_lease.specs.Due.{is_item}
use Rattle.jsp_model.specs.Due.{due}
use Rattle.jsp_model.specs.Touches.{touches}
use Rattle.jsp_model.specs.Refusals.{refusal}
use Rattle.jsp_model.specs.Requests.{RowRequest, rows_asked, as_blocked}
use Rattle.jsp_model.specs.Changes.{open_session, close, give, unblock, tell, remove, cast_vote, commit, abort, accepted}
use Rattle.jsp_model.specs.Answers.{said}
use Rattle.jsp_model.specs.Outboxes.{post, hand_out, outbox_of}
use Rattle.jsp_model.specs.declared.limits.TheConstants.{LAST_SESSION, LAST_TIME}

-- ---- choices

abbrev pub is_rising : List ℕ → Bool
is_rising [] = true
is_rising (n ∷ ns) = list_all (nat_lt n) ns && is_rising ns

-- these are available to the request: all there are, or the most that it asked for
abbrev pub is_choice : State → Blocked → List ℕ → Bool
is_choice st b ns =
    is_rising ns && list_all (contains (available st b)) ns && length ns == min b.most (length (available st b))

-- the rows that stand in the step of a request: a choice, where it is for rows and isn't refused
abbrev pub has_its_rows : State → ℕ → ℕ → List ℕ → Option Refusal → Option RowRequest → Bool
has_its_rows st s id ns None (Some q) = is_choice st (as_blocked st s id q) ns
has_its_rows st s id ns _ _ = length ns == 0

-- ---- votes

abbrev pub is_aborted : Option Vote → Bool
is_aborted (Some vote.Aborted) = true
is_aborted _ = false

abbrev pub is_vote_to_abort : Joined → Bool
is_vote_to_abort j = is_aborted j.vote

abbrev pub is_vote_to_commit : Joined → Bool
is_vote_to_commit j = is_some j.vote && not (is_vote_to_abort j)

-- ---- legal steps

abbrev pub is_fault : Refusal → Bool
is_fault BadJson = true
is_fault BadRequest = true
is_fault TooLong = true
is_fault _ = false

unfoldable pub is_legal : State → Step → Bool
is_legal st (step.Open s) = nat_le 1 s && nat_lt st.last_session s && nat_le s LAST_SESSION
is_legal st (step.Shut s) = is_open st s
is_legal st (step.Clock t) = true
is_legal st (step.Ask s asked ns) =
    is_open st s && is_none (due st) && are_quiet st (touches st (step.Ask s asked ns))
    && has_its_rows st s asked.id ns (refusal st s asked.id asked.ask) (rows_asked asked.ask)
is_legal st (step.Fault s id r) = is_open st s && is_fault r
is_legal st (step.Grant n ns) = option_map_or (λ b. nat_lt 0 (length ns) && is_choice st b ns) (blocked_of st n) false
is_legal st (step.Empty n) =
    option_map_or (λ b. is_if b.form && length (available st b) == 0 && not (has_conflict st b)) (blocked_of st n) false
is_legal st (step.Tell n) = option_map_or (λ r. nat_lt 0 (length r.owed)) (registration_of st n) false
is_legal st (step.Due item) = option_map_or (is_item item) (due st) false && are_quiet st (touches st (step.Due item))
is_legal st (step.Vote x space) =
    is_voting st x && option_map_or (λ j. is_none j.vote) (joined_at st x space) false && are_quiet st (touches st (step.Vote x space))
is_legal st (step.Decide x commits) =
    if commits then is_voting st x && list_all is_vote_to_commit (joined_of st x)
    else list_any is_vote_to_abort (joined_of st x)
is_legal st (step.HandOut s n) = nat_le 1 n && nat_le n (length (outbox_of st s))

-- ---- the state after a step

-- a refused request changes nothing else
abbrev pub after_ask : State → ℕ → ℕ → List ℕ → Ask → Option Refusal → State
after_ask st s id ns a None = accepted st s id ns a
after_ask st s id ns a (Some r) = st

abbrev pub is_too_long : Refusal → Bool
is_too_long TooLong = true
is_too_long _ = false

abbrev pub after_grant : State → ℕ → List ℕ → Option Blocked → State
after_grant st n ns None = st
after_grant st n ns (Some b) = unblock (give st b ns) n

abbrev pub after_hand_out : Step → List Outbox → List Outbox
after_hand_out (step.HandOut s n) boxes = hand_out s n boxes
after_hand_out _ boxes = boxes

-- all but the outboxes
abbrev pub change : State → Step → State
change st (step.Open s) = open_session st s
change st (step.Shut s) = close st s
change st (step.Clock t) = record st { time = max st.time (min t LAST_TIME) }
change st (step.Ask s a ns) = after_ask st s a.id ns a.ask (refusal st s a.id a.ask)
change st (step.Fault s id r) = if is_too_long r then close st s else st
change st (step.Grant n ns) = after_grant st n ns (blocked_of st n)
change st (step.Empty n) = unblock st n
change st (step.Tell n) = tell st n
change st (step.Due item) = remove st item.rank item.number
change st (step.Vote x space) = cast_vote st x space
change st (step.Decide x commits) = if commits then commit st x else abort st x
change st (step.HandOut s n) = st

unfoldable pub next : State → Step → State
next st step = record (change st step) { outboxes = after_hand_out step (fold post st.outboxes (said st step)) }
