-- The JSON value of each answer and event, which its text is written from. Only private clauses cite it.
use Rattle.std.specs.Prelude.{ℕ, ℤ, List, Bool, Option, Some, None, map, codes}
use Rattle.serde_json.specs.Data.{Data, null, boolean, number, unsigned, string, array, object, member, no_members}
use Rattle.serde_json.specs.Find.{of_integer}
use Rattle.serde_json.specs.View.{items_of}
use Rattle.jsp_types.specs.declared.entry.Entry.{Entry}
use Rattle.jsp_reply.specs.declared.refusal.Refusal.{Refusal}
use Rattle.jsp_reply.specs.declared.reply.LeaseAnswer.{LeaseAnswer}
use Rattle.jsp_reply.specs.declared.reply.LeaseOutcome.{LeaseOutcome}
use Rattle.jsp_reply.specs.declared.reply.LeaseOutcome.TheVariants as outcome
use Rattle.jsp_reply.specs.declared.reply.TxnState.{TxnState}
use Rattle.jsp_reply.specs.declared.reply.TxnState.TheVariants.{Active, Voting}
use Rattle.jsp_reply.specs.declared.reply.Reply.{Reply}
use Rattle.jsp_reply.specs.declared.reply.Reply.TheVariants as reply
use Rattle.jsp_reply.specs.Numbers.{number_of}
use Rattle.jsp_reply.specs.Text.{with_fields}

abbrev pub count : ℕ → Data
count n = number (unsigned n)

-- a list of what f gives
abbrev pub list_data : {A : Type 0} → (A → Data) → List A → Data
list_data f xs = array (items_of (map f xs))

abbrev pub entry_data : Entry → Data
entry_data e = object (member (codes "class") (string e.class) (member (codes "fields") (object (with_fields e.fields no_members)) no_members))

abbrev pub lease_data : Data → ℕ → Data
lease_data lease ms = object (member (codes "lease") lease (member (codes "ms") (count ms) no_members))

abbrev pub outcome_data : Data → LeaseOutcome → Data
outcome_data lease (outcome.Renewed ms) = lease_data lease ms
outcome_data lease outcome.Cancelled = object (member (codes "lease") lease no_members)
outcome_data lease (outcome.Refused refusal) = object (member (codes "fault") (count (number_of refusal)) (member (codes "lease") lease no_members))

abbrev pub number_data : ℤ → Data
number_data n = number (of_integer n)

abbrev pub lease_answer_data : LeaseAnswer → Data
lease_answer_data a = outcome_data (number_data a.lease) a.outcome

abbrev pub state_data : TxnState → Data
state_data Active = string (codes "active")
state_data Voting = string (codes "voting")

abbrev pub id_data : Option ℕ → Data
id_data None = null
id_data (Some id) = count id

abbrev pub answer_data : ℕ → Data → Data
answer_data id ok = object (member (codes "id") (count id) (member (codes "ok") ok no_members))

abbrev pub batch_data : List ℕ → ℕ → Data
batch_data leases ms = object (member (codes "leases") (list_data count leases) (member (codes "ms") (count ms) no_members))

abbrev pub page_data : Bool → List Entry → Data
page_data end entries = object (member (codes "end") (boolean end) (member (codes "entries") (list_data entry_data entries) no_members))

abbrev pub refused_data : Option ℕ → Refusal → Data
refused_data id refusal = object (member (codes "fault") (count (number_of refusal)) (member (codes "id") (id_data id) no_members))

abbrev pub event_data : List ℕ → ℕ → ℕ → Data
event_data handback lease sequence = object (member (codes "handback") (string handback) (member (codes "lease") (count lease) (member (codes "seq") (count sequence) no_members)))

abbrev pub told_data : List ℕ → ℕ → ℕ → Data
told_data handback lease sequence = object (member (codes "event") (event_data handback lease sequence) no_members)

abbrev pub reply_data : Reply → Data
reply_data (reply.Done id) = answer_data id null
reply_data (reply.Leased id lease ms) = answer_data id (lease_data (count lease) ms)
reply_data (reply.Shown id entry) = answer_data id (entry_data entry)
reply_data (reply.Nothing id) = answer_data id null
reply_data (reply.State id state) = answer_data id (state_data state)
reply_data (reply.Names id names) = answer_data id (list_data string names)
reply_data (reply.Leases id items) = answer_data id (list_data lease_answer_data items)
reply_data (reply.Refused id refusal) = refused_data id refusal
reply_data (reply.Told handback lease sequence) = told_data handback lease sequence
reply_data (reply.Batch id leases ms) = answer_data id (batch_data leases ms)
reply_data (reply.Many id entries) = answer_data id (list_data entry_data entries)
reply_data (reply.Page id end entries) = answer_data id (page_data end entries)
