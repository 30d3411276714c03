-- Steps of a state that is not known: a refused request, and a request for a transaction.
use Rattle.std.proofs.Common.{◌≡◌, refl, ℕ, ℤ, true, [], Some, None}
use Rattle.jsp_wire.specs.declared.ask.Request.{Request}
use Rattle.jsp_wire.specs.declared.ask.Ask.TheVariants as ask
use Rattle.jsp_reply.specs.declared.refusal.Refusal.{Refusal}
use Rattle.jsp_reply.specs.declared.reply.Reply.TheVariants as says
use Rattle.jsp_model.specs.declared.state.State.{State}
use Rattle.jsp_model.specs.declared.step.Step.TheVariants as step
use Rattle.jsp_model.specs.Lookup.{is_open}
use Rattle.jsp_lease.specs.Granted.{ms_of}
use Rattle.jsp_model.specs.Refusals.{refusal}
use Rattle.jsp_model.specs.Changes.{begin}
use Rattle.jsp_model.specs.Answers.{said}
use Rattle.jsp_model.specs.Steps.{next}
use Rattle.jsp_model.specs.Outboxes.{post}

-- a refused request changes the outbox alone
pub refused_ask : (st : State) (s : ℕ) (a : Request) (r : Refusal) → refusal st s a.id a.ask ≡ Some r → is_open st s ≡ true
    → next st (step.Ask s a []) ≡ record st { outboxes = post st.outboxes (s, says.Refused (Some a.id) r) }
unfolding next said
refused_ask st s a r e o = rw (e, o) refl

-- a new transaction
pub begun : (st : State) (s id : ℕ) (lease : ℤ) → refusal st s id (ask.Txn lease) ≡ None → is_open st s ≡ true
    → next st (step.Ask s (record { id = id; ask = ask.Txn lease }) [])
    ≡ record (begin st lease) { outboxes = post st.outboxes (s, says.Leased id st.next_number (ms_of lease)) }
unfolding next said
begun st s id lease e o = rw (e, o) refl
