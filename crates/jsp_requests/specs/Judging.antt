-- What is found out of a request, for all that comes of it.
use Rattle.std.specs.Prelude.{ℕ, Option, Some, None}
use Rattle.jsp_wire.specs.declared.ask.Ask.{Ask}
use Rattle.jsp_reply.specs.declared.refusal.Refusal.{Refusal}
use Rattle.jsp_model.specs.declared.state.State.{State}
use Rattle.jsp_model.specs.Requests.{RowRequest, rows_asked}
use Rattle.jsp_model.specs.Refusals.{refusal}
use Rattle.jsp_entries.specs.Searching.{wanted}
use Rattle.jsp_requests.specs.declared.judging.Judged.{Judged}
use Rattle.jsp_requests.specs.declared.judging.Judged.TheVariants.{Refused, Rows, Plain}

-- where it isn't refused, and is for these rows, or for none
abbrev pub judged_rows : State → ℕ → ℕ → Option RowRequest → Judged
judged_rows st s id None = Plain
judged_rows st s id (Some q) = Rows (wanted st s id q)

abbrev pub judged_as : State → ℕ → ℕ → Option Refusal → Option RowRequest → Judged
judged_as st s id (Some r) o = Refused r
judged_as st s id None o = judged_rows st s id o

abbrev pub judged : State → ℕ → ℕ → Ask → Judged
judged st s id a = judged_as st s id (refusal st s id a) (rows_asked a)
