-- What requests ask of a state, and a request for rows as it waits.
use Rattle.std.specs.Prelude.{ℕ, ℤ, ◌+◌, Bool, ◌&&◌, nat_lt, min, List, [], ◌∷◌, map, filter_map, Option, Some, None, unwrap_or, option_map}
use Rattle.jsp_types.specs.Classes.{sorted}
use Rattle.jsp_types.specs.Matching.{template_of}
use Rattle.jsp_types.specs.declared.value.Kind.{Kind}
use Rattle.jsp_types.specs.declared.class.Class.{Class}
use Rattle.jsp_types.specs.declared.entry.Raw.{Raw}
use Rattle.jsp_wire.specs.declared.ask.Ask.{Ask}
use Rattle.jsp_wire.specs.declared.ask.Ask.TheVariants as ask
use Rattle.jsp_wire.specs.declared.ask.Declare.{Declare}
use Rattle.jsp_wire.specs.declared.ask.Search.{Search}
use Rattle.jsp_wire.specs.declared.ask.TakeMany.{TakeMany}
use Rattle.jsp_wire.specs.declared.ask.Write.{Write}
use Rattle.jsp_wire.specs.declared.ask.WriteAll.{WriteAll}
use Rattle.jsp_model.specs.declared.state.State.{State}
use Rattle.jsp_model.specs.declared.state.Blocked.{Blocked}
use Rattle.jsp_model.specs.declared.state.Form.{Form}
use Rattle.jsp_model.specs.declared.state.Form.TheVariants as form
use Rattle.jsp_model.specs.Lookup.{named, space_named}
use Rattle.jsp_model.specs.Quiet.{must_wait}
use Rattle.jsp_model.specs.declared.limits.TheConstants.{NEVER}

abbrev pub caller_of : Option ℤ → Option ℕ
caller_of txn = option_map named txn

-- entries to be written: one, or several together
pub record WriteRequest : Type 0 where
  pub space : List ℕ
  pub entries : List Raw
  pub lease : ℤ
  pub txn : Option ℤ

-- rows to be read or taken
pub record RowRequest : Type 0 where
  pub form : Form
  pub space : List ℕ
  pub templates : List (Option Raw)
  pub most : ℕ
  pub timeout : ℤ
  pub txn : Option ℤ

abbrev pub one_row : Form → Search → RowRequest
one_row f q = record { form = f; space = q.space; templates = q.template ∷ []; most = 1; timeout = q.timeout; txn = q.txn }

abbrev pub many_rows : TakeMany → RowRequest
many_rows q = record { form = form.TakeMany; space = q.space; templates = q.templates; most = q.most; timeout = q.timeout; txn = q.txn }

-- the rows that a request is for, if it is for rows
abbrev pub rows_asked : Ask → Option RowRequest
rows_asked (ask.Read q) = Some (one_row form.Read q)
rows_asked (ask.ReadIf q) = Some (one_row form.ReadIf q)
rows_asked (ask.Take q) = Some (one_row form.Take q)
rows_asked (ask.TakeIf q) = Some (one_row form.TakeIf q)
rows_asked (ask.TakeMany q) = Some (many_rows q)
rows_asked _ = None

abbrev pub one_entry : Write → WriteRequest
one_entry w = record { space = w.space; entries = w.entry ∷ []; lease = w.lease; txn = w.txn }

abbrev pub all_entries : WriteAll → WriteRequest
all_entries w = record { space = w.space; entries = w.entries; lease = w.lease; txn = w.txn }

-- the place of a space that is there
abbrev pub place_of : State → List ℕ → ℕ
place_of st name = unwrap_or (space_named st name) 0

-- the request as it waits
abbrev pub as_blocked : State → ℕ → ℕ → RowRequest → Blocked
as_blocked st s id q =
    record {
      number = st.next_number;
      session = s;
      id = id;
      space = place_of st q.space;
      templates = map (template_of st.classes) q.templates;
      transaction = caller_of q.txn;
      form = q.form;
      most = q.most;
      end = min (st.time + named q.timeout) NEVER;
    }

-- it would wait
abbrev pub would_block : State → ℕ → ℕ → RowRequest → Bool
would_block st s id q = nat_lt 0 (named q.timeout) && must_wait st (as_blocked st s id q)

-- the fields of a declaration that have a kind
abbrev pub kinded : List (List ℕ × Option Kind) → List (List ℕ × Kind)
kinded fields = filter_map (λ f. option_map (λ k. (f.0, k)) f.1) fields

abbrev pub class_asked : Declare → Class
class_asked d = record { name = d.class; parent = d.parent; fields = sorted (kinded d.fields) }
