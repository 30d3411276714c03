-- What is written for the JSON of a reply is the reply's text.
use Rattle.std.proofs.Common.{◌≡◌, ℕ, ℤ, pos, negsuc, List, [], ◌∷◌, true, false, Some, None, map, decimal, refl}
use Rattle.std.specs.Fmt.{signed_decimal}
use Rattle.serde_json.specs.Data.{Data, string}
use Rattle.serde_json.specs.Find.{of_integer}
use Rattle.serde_json.specs.View.{items_of}
use Rattle.serde_json.specs.Written.{number_text, compact_text, items_text}
use Rattle.serde_json.proofs.OnLiterals.{serde_json_on_literals}
use Rattle.jsp_types.specs.declared.entry.Entry.{Entry}
use Rattle.jsp_reply.specs.declared.reply.LeaseOutcome.{LeaseOutcome}
use Rattle.jsp_reply.specs.declared.reply.LeaseOutcome.TheVariants as outcome
use Rattle.jsp_reply.specs.declared.reply.TxnState.TheVariants.{Active, Voting}
use Rattle.jsp_reply.specs.declared.reply.Reply.{Reply}
use Rattle.jsp_reply.specs.declared.reply.Reply.TheVariants as reply
use Rattle.jsp_reply.specs.Text.{quoted, later_texts, list_text, entry_text, lease_answer_text, outcome_text, text_of}
use Rattle.jsp_reply.specs.Json.{count, number_data, list_data, entry_data, outcome_data, lease_answer_data, reply_data}

-- ---- the text

number_text_of_integer : (n : ℤ) → number_text (of_integer n) ≡ signed_decimal n
number_text_of_integer (pos n) = refl
number_text_of_integer (negsuc n) = refl

outcome_same : (lease : ℤ) (o : LeaseOutcome) → compact_text (outcome_data (number_data lease) o) ≡ outcome_text lease o
unfolding serde_json_on_literals
outcome_same lease (outcome.Renewed ms) = rw (number_text_of_integer lease)
outcome_same lease outcome.Cancelled = rw (number_text_of_integer lease)
outcome_same lease (outcome.Refused refusal) = rw (number_text_of_integer lease)

entry_same : (e : Entry) → compact_text (entry_data e) ≡ entry_text e
unfolding serde_json_on_literals
entry_same e = refl

later_same : {A : Type 0} (data_of : A → Data) (text : A → List ℕ) (same : (x : A) → compact_text (data_of x) ≡ text x) (xs : List A) → items_text true (items_of (map data_of xs)) ≡ later_texts (map text xs)
later_same data_of text same [] = refl
later_same data_of text same (x ∷ xs) = rw (same x, later_same data_of text same xs)

list_same : {A : Type 0} (data_of : A → Data) (text : A → List ℕ) (same : (x : A) → compact_text (data_of x) ≡ text x) (xs : List A) → compact_text (list_data data_of xs) ≡ list_text (map text xs)
list_same data_of text same [] = refl
list_same data_of text same (x ∷ xs) = rw (same x, later_same data_of text same xs)

pub reply_same : (r : Reply) → compact_text (reply_data r) ≡ text_of r
unfolding serde_json_on_literals text_of
reply_same (reply.Done id) = refl
reply_same (reply.Leased id lease ms) = refl
reply_same (reply.Shown id entry) = refl
reply_same (reply.Nothing id) = refl
reply_same (reply.State id Active) = refl
reply_same (reply.State id Voting) = refl
reply_same (reply.Names id names) = rw (← list_same string quoted (λ n. refl) names) refl
reply_same (reply.Leases id items) = rw (← list_same lease_answer_data lease_answer_text (λ a. outcome_same a.lease a.outcome) items) refl
reply_same (reply.Refused None refusal) = refl
reply_same (reply.Refused (Some id) refusal) = refl
reply_same (reply.Told handback lease sequence) = refl
reply_same (reply.Batch id leases ms) = rw (← list_same count decimal (λ n. refl) leases) refl
reply_same (reply.Many id entries) = rw (← list_same entry_data entry_text entry_same entries) refl
reply_same (reply.Page id true entries) = rw (← list_same entry_data entry_text entry_same entries) refl
reply_same (reply.Page id false entries) = rw (← list_same entry_data entry_text entry_same entries) refl
