-- The text of each answer and event: compact JSON, keys in byte order.
use Rattle.std.specs.Prelude.{ℕ, ℤ, List, [], ◌∷◌, ◌++◌, Bool, true, false, Option, Some, None, map, codes, decimal}
use Rattle.std.specs.Fmt.{signed_decimal}
use Rattle.serde_json.specs.Data.{Data, null, boolean, number, string, object, Members, no_members, put}
use Rattle.serde_json.specs.Find.{of_integer}
use Rattle.serde_json.specs.Written.{compact_text}
use Rattle.jsp_types.specs.declared.value.Value.{Value}
use Rattle.jsp_types.specs.declared.value.Value.TheVariants as value
use Rattle.jsp_types.specs.declared.entry.Entry.{Entry}
use Rattle.jsp_reply.specs.declared.refusal.Refusal.{Refusal}
use Rattle.jsp_reply.specs.declared.reply.LeaseAnswer.{LeaseAnswer}
use Rattle.jsp_reply.specs.declared.reply.LeaseOutcome.{LeaseOutcome}
use Rattle.jsp_reply.specs.declared.reply.LeaseOutcome.TheVariants as outcome
use Rattle.jsp_reply.specs.declared.reply.TxnState.{TxnState}
use Rattle.jsp_reply.specs.declared.reply.TxnState.TheVariants.{Active, Voting}
use Rattle.jsp_reply.specs.declared.reply.Reply.{Reply}
use Rattle.jsp_reply.specs.declared.reply.Reply.TheVariants as reply
use Rattle.jsp_reply.specs.Numbers.{number_of}

-- ---- texts, numbers and lists

-- a text as serde_json writes it, in quotes
abbrev pub quoted : List ℕ → List ℕ
quoted s = compact_text (string s)

abbrev pub later_texts : List (List ℕ) → List ℕ
later_texts [] = codes "]"
later_texts (t ∷ ts) = codes "," ++ (t ++ later_texts ts)

-- the texts in brackets, with a comma between two
abbrev pub list_text : List (List ℕ) → List ℕ
list_text [] = codes "[]"
list_text (t ∷ ts) = codes "[" ++ (t ++ later_texts ts)

abbrev pub id_text : Option ℕ → List ℕ
id_text None = codes "null"
id_text (Some id) = decimal id

abbrev pub bool_text : Bool → List ℕ
bool_text true = codes "true"
bool_text false = codes "false"

-- ---- entries

-- the value as JSON
abbrev pub value_data : Value → Data
value_data value.Null = null
value_data (value.Int n) = number (of_integer n)
value_data (value.Text s) = string s
value_data (value.Bool b) = boolean b

-- the members and these fields, in byte order of all names
abbrev pub with_fields : List (List ℕ × Value) → Members → Members
with_fields [] ms = ms
with_fields (f ∷ fs) ms = with_fields fs (put f.0 (value_data f.1) ms)

abbrev pub fields_text : List (List ℕ × Value) → List ℕ
fields_text fs = compact_text (object (with_fields fs no_members))

abbrev pub entry_text : Entry → List ℕ
entry_text e = codes "{\"class\":" ++ (quoted e.class ++ (codes ",\"fields\":" ++ (fields_text e.fields ++ codes "}")))

-- ---- leases, transactions, lists of entries

abbrev pub lease_text : ℕ → ℕ → List ℕ
lease_text lease ms = codes "{\"lease\":" ++ (decimal lease ++ (codes ",\"ms\":" ++ (decimal ms ++ codes "}")))

-- what became of the lease that was asked by this number
abbrev pub outcome_text : ℤ → LeaseOutcome → List ℕ
outcome_text lease (outcome.Renewed ms) = codes "{\"lease\":" ++ (signed_decimal lease ++ (codes ",\"ms\":" ++ (decimal ms ++ codes "}")))
outcome_text lease outcome.Cancelled = codes "{\"lease\":" ++ (signed_decimal lease ++ codes "}")
outcome_text lease (outcome.Refused refusal) = codes "{\"fault\":" ++ (decimal (number_of refusal) ++ (codes ",\"lease\":" ++ (signed_decimal lease ++ codes "}")))

abbrev pub lease_answer_text : LeaseAnswer → List ℕ
lease_answer_text a = outcome_text a.lease a.outcome

abbrev pub state_text : TxnState → List ℕ
state_text Active = codes "\"active\""
state_text Voting = codes "\"voting\""

abbrev pub batch_text : List ℕ → ℕ → List ℕ
batch_text leases ms = codes "{\"leases\":" ++ (list_text (map decimal leases) ++ (codes ",\"ms\":" ++ (decimal ms ++ codes "}")))

abbrev pub page_text : Bool → List Entry → List ℕ
page_text end entries = codes "{\"end\":" ++ (bool_text end ++ (codes ",\"entries\":" ++ (list_text (map entry_text entries) ++ codes "}")))

abbrev pub event_text : List ℕ → ℕ → ℕ → List ℕ
event_text handback lease sequence = codes "{\"handback\":" ++ (quoted handback ++ (codes ",\"lease\":" ++ (decimal lease ++ (codes ",\"seq\":" ++ (decimal sequence ++ codes "}")))))

-- ---- answers and events

abbrev pub answer_text : ℕ → List ℕ → List ℕ
answer_text id ok = codes "{\"id\":" ++ (decimal id ++ (codes ",\"ok\":" ++ (ok ++ codes "}")))

abbrev pub refused_text : Option ℕ → Refusal → List ℕ
refused_text id refusal = codes "{\"fault\":" ++ (decimal (number_of refusal) ++ (codes ",\"id\":" ++ (id_text id ++ codes "}")))

abbrev pub told_text : List ℕ → ℕ → ℕ → List ℕ
told_text handback lease sequence = codes "{\"event\":" ++ (event_text handback lease sequence ++ codes "}")

-- the one text of each answer and event
unfoldable pub text_of : Reply → List ℕ
text_of (reply.Done id) = answer_text id (codes "null")
text_of (reply.Leased id lease ms) = answer_text id (lease_text lease ms)
text_of (reply.Shown id entry) = answer_text id (entry_text entry)
text_of (reply.Nothing id) = answer_text id (codes "null")
text_of (reply.State id state) = answer_text id (state_text state)
text_of (reply.Names id names) = answer_text id (list_text (map quoted names))
text_of (reply.Leases id items) = answer_text id (list_text (map lease_answer_text items))
text_of (reply.Refused id refusal) = refused_text id refusal
text_of (reply.Told handback lease sequence) = told_text handback lease sequence
text_of (reply.Batch id leases ms) = answer_text id (batch_text leases ms)
text_of (reply.Many id entries) = answer_text id (list_text (map entry_text entries))
text_of (reply.Page id end entries) = answer_text id (page_text end entries)

-- each text is shorter than this many bytes: the limit of a frame in the version that the answer belongs to
abbrev pub bound_of : Reply → ℕ
bound_of (reply.Batch id leases ms) = 1048576
bound_of (reply.Many id entries) = 1048576
bound_of (reply.Page id end entries) = 1048576
bound_of _ = 65536
