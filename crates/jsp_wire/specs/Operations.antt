-- The operations, each with the keys of its object.
use Rattle.std.specs.Prelude.{ℕ, ℤ, List, [], ◌∷◌, if◌then◌else◌, Option, Some, None, option_map, codes}
use Rattle.std.specs.Str.{bytes_eq}
use Rattle.serde_json.specs.Data.{Data}
use Rattle.jsp_wire.specs.declared.ask.Ask.{Ask}
use Rattle.jsp_wire.specs.declared.ask.Ask.TheVariants as ask
use Rattle.jsp_wire.specs.declared.ask.Search.{Search}
use Rattle.jsp_wire.specs.declared.ask.Version.{Version}
use Rattle.jsp_wire.specs.declared.ask.Version.TheVariants as version
use Rattle.jsp_wire.specs.Parts.{◌>>=◌, only, text_at, number_at, count_at, version_at, optional_text_at, optional_number_at, numbers_at, pairs_at, kinds_at, entry_at, entries_at, template_at, templates_at}

unfoldable pub declare_of : Data → Option Ask
declare_of d = do
  _ ← only (codes "id" ∷ codes "op" ∷ codes "class" ∷ codes "parent" ∷ codes "fields" ∷ []) d
  class ← text_at (codes "class") d
  parent ← optional_text_at (codes "parent") d
  fields ← kinds_at (codes "fields") d
  Some (ask.Declare (record { class = class; parent = parent; fields = fields }))

unfoldable pub write_of : Data → Option Ask
write_of d = do
  _ ← only (codes "id" ∷ codes "op" ∷ codes "space" ∷ codes "entry" ∷ codes "lease" ∷ codes "txn" ∷ []) d
  space ← text_at (codes "space") d
  entry ← entry_at (codes "entry") d
  lease ← number_at (codes "lease") d
  txn ← optional_number_at (codes "txn") d
  Some (ask.Write (record { space = space; entry = entry; lease = lease; txn = txn }))

-- a request for rows
unfoldable pub search_of : Data → Option Search
search_of d = do
  _ ← only (codes "id" ∷ codes "op" ∷ codes "space" ∷ codes "template" ∷ codes "timeout" ∷ codes "txn" ∷ []) d
  space ← text_at (codes "space") d
  template ← template_at (codes "template") d
  timeout ← number_at (codes "timeout") d
  txn ← optional_number_at (codes "txn") d
  Some (record { space = space; template = template; timeout = timeout; txn = txn })

unfoldable pub notify_of : Data → Option Ask
notify_of d = do
  _ ← only (codes "id" ∷ codes "op" ∷ codes "space" ∷ codes "template" ∷ codes "lease" ∷ codes "handback" ∷ codes "txn" ∷ []) d
  space ← text_at (codes "space") d
  template ← template_at (codes "template") d
  lease ← number_at (codes "lease") d
  handback ← text_at (codes "handback") d
  txn ← optional_number_at (codes "txn") d
  Some (ask.Notify (record { space = space; template = template; lease = lease; handback = handback; txn = txn }))

unfoldable pub renew_of : Data → Option Ask
renew_of d = do
  _ ← only (codes "id" ∷ codes "op" ∷ codes "lease" ∷ codes "ms" ∷ []) d
  lease ← number_at (codes "lease") d
  ms ← number_at (codes "ms") d
  Some (ask.Renew lease ms)

unfoldable pub cancel_of : Data → Option Ask
cancel_of d = do
  _ ← only (codes "id" ∷ codes "op" ∷ codes "lease" ∷ []) d
  lease ← number_at (codes "lease") d
  Some (ask.Cancel lease)

-- each lease with the time that is asked for it
unfoldable pub renew_all_of : Data → Option Ask
renew_all_of d = do
  _ ← only (codes "id" ∷ codes "op" ∷ codes "leases" ∷ []) d
  leases ← pairs_at (codes "leases") d
  Some (ask.RenewAll leases)

unfoldable pub cancel_all_of : Data → Option Ask
cancel_all_of d = do
  _ ← only (codes "id" ∷ codes "op" ∷ codes "leases" ∷ []) d
  leases ← numbers_at (codes "leases") d
  Some (ask.CancelAll leases)

-- a transaction to be begun
unfoldable pub begin_of : Data → Option Ask
begin_of d = do
  _ ← only (codes "id" ∷ codes "op" ∷ codes "lease" ∷ []) d
  lease ← number_at (codes "lease") d
  Some (ask.Txn lease)

-- the transaction that an operation is about, which can't be null
unfoldable pub transaction_of : Data → Option ℤ
transaction_of d = do
  _ ← only (codes "id" ∷ codes "op" ∷ codes "txn" ∷ []) d
  txn ← number_at (codes "txn") d
  Some txn

unfoldable pub reset_of : Data → Option Ask
reset_of d = do
  _ ← only (codes "id" ∷ codes "op" ∷ codes "space" ∷ []) d
  space ← text_at (codes "space") d
  Some (ask.Reset space)

-- an operation without keys of its own
unfoldable pub keyless_of : Ask → Data → Option Ask
keyless_of a d = do
  _ ← only (codes "id" ∷ codes "op" ∷ []) d
  Some a

-- the version that the line is to have
unfoldable pub hello_of : Data → Option Ask
hello_of d = do
  _ ← only (codes "id" ∷ codes "op" ∷ codes "version" ∷ []) d
  v ← version_at (codes "version") d
  Some (ask.Hello v)

-- ---- what version 2 adds

unfoldable pub write_all_of : Data → Option Ask
write_all_of d = do
  _ ← only (codes "id" ∷ codes "op" ∷ codes "space" ∷ codes "entries" ∷ codes "lease" ∷ codes "txn" ∷ []) d
  space ← text_at (codes "space") d
  entries ← entries_at (codes "entries") d
  lease ← number_at (codes "lease") d
  txn ← optional_number_at (codes "txn") d
  Some (ask.WriteAll (record { space = space; entries = entries; lease = lease; txn = txn }))

unfoldable pub take_many_of : Data → Option Ask
take_many_of d = do
  _ ← only (codes "id" ∷ codes "op" ∷ codes "space" ∷ codes "templates" ∷ codes "most" ∷ codes "timeout" ∷ codes "txn" ∷ []) d
  space ← text_at (codes "space") d
  templates ← templates_at (codes "templates") d
  most ← count_at (codes "most") d
  timeout ← number_at (codes "timeout") d
  txn ← optional_number_at (codes "txn") d
  Some (ask.TakeMany (record { space = space; templates = templates; most = most; timeout = timeout; txn = txn }))

-- a match set to be opened
unfoldable pub contents_of : Data → Option Ask
contents_of d = do
  _ ← only (codes "id" ∷ codes "op" ∷ codes "space" ∷ codes "template" ∷ codes "lease" ∷ codes "txn" ∷ []) d
  space ← text_at (codes "space") d
  template ← template_at (codes "template") d
  lease ← number_at (codes "lease") d
  txn ← optional_number_at (codes "txn") d
  Some (ask.Contents (record { space = space; template = template; lease = lease; txn = txn }))

unfoldable pub next_of : Data → Option Ask
next_of d = do
  _ ← only (codes "id" ∷ codes "op" ∷ codes "set" ∷ codes "most" ∷ []) d
  set ← number_at (codes "set") d
  most ← count_at (codes "most") d
  Some (ask.Next set most)

unfoldable pub close_set_of : Data → Option Ask
close_set_of d = do
  _ ← only (codes "id" ∷ codes "op" ∷ codes "set" ∷ []) d
  set ← number_at (codes "set") d
  Some (ask.CloseSet set)

-- ---- by name

-- the operation of that name, of those that a line of version 2 has and one of version 1 hasn't
unfoldable pub added_of : Version → List ℕ → Data → Option Ask
added_of version.One name d = None
added_of version.Two name d =
    if bytes_eq name (codes "write_all") then write_all_of d
    else (if bytes_eq name (codes "take_many") then take_many_of d
    else (if bytes_eq name (codes "contents") then contents_of d
    else (if bytes_eq name (codes "next") then next_of d
    else (if bytes_eq name (codes "close_set") then close_set_of d
    else None))))

-- the operation of that name on a line of this version, by the keys of the object
unfoldable pub ask_of : Version → List ℕ → Data → Option Ask
ask_of v name d =
    if bytes_eq name (codes "declare") then declare_of d
    else (if bytes_eq name (codes "write") then write_of d
    else (if bytes_eq name (codes "read") then option_map ask.Read (search_of d)
    else (if bytes_eq name (codes "read_if") then option_map ask.ReadIf (search_of d)
    else (if bytes_eq name (codes "take") then option_map ask.Take (search_of d)
    else (if bytes_eq name (codes "take_if") then option_map ask.TakeIf (search_of d)
    else (if bytes_eq name (codes "notify") then notify_of d
    else (if bytes_eq name (codes "renew") then renew_of d
    else (if bytes_eq name (codes "cancel") then cancel_of d
    else (if bytes_eq name (codes "renew_all") then renew_all_of d
    else (if bytes_eq name (codes "cancel_all") then cancel_all_of d
    else (if bytes_eq name (codes "txn") then begin_of d
    else (if bytes_eq name (codes "commit") then option_map ask.Commit (transaction_of d)
    else (if bytes_eq name (codes "abort") then option_map ask.Abort (transaction_of d)
    else (if bytes_eq name (codes "state") then option_map ask.State (transaction_of d)
    else (if bytes_eq name (codes "reset") then reset_of d
    else (if bytes_eq name (codes "spaces") then keyless_of ask.Spaces d
    else (if bytes_eq name (codes "bye") then keyless_of ask.Bye d
    else (if bytes_eq name (codes "hello") then hello_of d
    else added_of v name d))))))))))))))))))
