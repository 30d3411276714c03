-- What a payload is on a line of each version: one request, or one fault.
use Rattle.std.specs.Prelude.{◌≡◌, ℕ, List, if◌then◌else◌, Option, Some, None, Result, Ok, Err, codes}
use Rattle.std.specs.Str.{is_utf8}
use Rattle.serde_json.specs.Data.{Data}
use Rattle.serde_json.specs.Read.{read}
use Rattle.jsp_wire.specs.declared.ask.Request.{Request}
use Rattle.jsp_wire.specs.declared.ask.Version.{Version}
use Rattle.jsp_wire.specs.declared.fault.WireFault.{WireFault}
use Rattle.jsp_wire.specs.declared.fault.WireFault.TheVariants as fault
use Rattle.jsp_wire.specs.Limits.{within_limits}
use Rattle.jsp_wire.specs.Parts.{◌>>=◌, text_at, id_at}
use Rattle.jsp_wire.specs.Operations.{ask_of}

pub data Reading : Type 0 where
  request : Request → Reading
  -- no JSON, and so no id
  bad_json : Reading
  -- JSON that is no request, with its id where it has one
  bad_request : Option ℕ → Reading

-- the JSON that a payload is
abbrev pub json_of : List ℕ → Option Data
json_of payload = if is_utf8 payload then read payload else None

unfoldable pub request_of : Version → Data → Option Request
request_of v d = do
  id ← id_at d
  name ← text_at (codes "op") d
  ask ← ask_of v name d
  within_limits (record { id = id; ask = ask })

abbrev pub request_or_fault : Option Request → Option ℕ → Reading
request_or_fault (Some r) id = request r
request_or_fault None id = bad_request id

abbrev pub reading_of : Version → Option Data → Reading
reading_of v None = bad_json
reading_of v (Some d) = request_or_fault (request_of v d) (id_at d)

-- what a payload is on a line of this version
unfoldable pub reading : Version → List ℕ → Reading
reading v payload = reading_of v (json_of payload)

-- what was returned is what the payload is, unless memory ran out
abbrev pub TellsReading : Result Request WireFault → Reading → Type 0
TellsReading (Ok r) read = read ≡ request r
TellsReading (Err fault.BadJson) read = read ≡ bad_json
TellsReading (Err (fault.BadRequest id)) read = read ≡ bad_request id
TellsReading (Err fault.NoMemory) read = Unit {0}
