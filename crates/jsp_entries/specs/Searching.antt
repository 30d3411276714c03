-- Why a request for rows can't wait, what comes of one that isn't refused, and what it is answered.
use Rattle.std.specs.Prelude.{ℕ, Bool, ◌&&◌, nat_lt, nat_le, if◌then◌else◌, List, [], ◌∷◌, Option}
use Rattle.jsp_types.specs.declared.entry.Entry.{Entry}
use Rattle.jsp_reply.specs.declared.refusal.Refusal.TheVariants.{BadTimeout, TooManyWaiting, UsedUp}
use Rattle.jsp_reply.specs.declared.reply.Reply.{Reply}
use Rattle.jsp_reply.specs.declared.reply.Reply.TheVariants as says
use Rattle.jsp_model.specs.declared.state.State.{State}
use Rattle.jsp_model.specs.declared.state.Blocked.{Blocked}
use Rattle.jsp_model.specs.declared.state.Form.{Form}
use Rattle.jsp_model.specs.Lookup.{named, waiting_count}
use Rattle.jsp_model.specs.Quiet.{must_wait}
use Rattle.jsp_model.specs.Requests.{RowRequest, as_blocked, would_block}
use Rattle.jsp_model.specs.Changes.{join, block, give}
use Rattle.jsp_model.specs.Answers.{is_many, answer_with, entries_of}
use Rattle.jsp_entries.specs.declared.blocking.RowsWanted.{RowsWanted}
use Rattle.jsp_model.specs.Refusals.{Tests, is_negative, is_used_up}
use Rattle.jsp_model.specs.declared.limits.TheConstants.{MOST_WAITING}

abbrev pub waiting_tests : State → ℕ → ℕ → RowRequest → Tests
waiting_tests st s id q =
    (is_negative q.timeout, BadTimeout)
    ∷ (would_block st s id q && nat_le MOST_WAITING (waiting_count st s), TooManyWaiting)
    ∷ (would_block st s id q && is_used_up st 1, UsedUp)
    ∷ []

-- why no request of the session can wait
abbrev pub waiting_limits : State → ℕ → Tests
waiting_limits st s =
    (nat_le MOST_WAITING (waiting_count st s), TooManyWaiting)
    ∷ (is_used_up st 1, UsedUp)
    ∷ []

-- a request for rows as it would wait, and whether it may
abbrev pub wanted : State → ℕ → ℕ → RowRequest → RowsWanted
wanted st s id q = record { request = as_blocked st s id q; may_wait = nat_lt 0 (named q.timeout) }

abbrev pub waits : State → RowsWanted → Bool
waits st w = w.may_wait && must_wait st w.request

-- the state where the request waits, or is given these rows
abbrev pub served : State → RowsWanted → List ℕ → State
served st w ns =
    let joined = join st w.request.transaction w.request.space in
    if waits st w then block joined w.request else give joined w.request ns

-- none where it waits
abbrev pub said_at_once : State → RowsWanted → List ℕ → List Reply
said_at_once st w ns = if waits st w then [] else answer_with w.request (entries_of st ns) ∷ []

-- the answer to a request of this form that is given these entries
abbrev pub reply_with : Form → ℕ → List Entry → Reply
reply_with form id [] = says.Nothing id
reply_with form id (e ∷ es) = if is_many form then says.Many id (e ∷ es) else says.Shown id e

abbrev pub form_and_caller : Blocked → Form × Option ℕ
form_and_caller b = (b.form, b.transaction)
