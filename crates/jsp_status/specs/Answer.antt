-- What a request is answered.
use Rattle.std.specs.Prelude.{◌≡◌, ℕ, List, [], ◌∷◌, ◌||◌, All, Option, codes, bytes_eq, if◌then◌else◌}
use Rattle.serde_json.specs.Written.{compact_text}
use Rattle.std.specs.Io.KnownBytes.{Appends, Consumes}
use Rattle.http.specs.declared.request.Request.{Request}
use Rattle.http.specs.Request.{head_of}
use Rattle.http_uri.specs.Uri.{uri_path}
use Rattle.http1.specs.Fields.{Header}
use Rattle.http_server.specs.declared.response.Response.{Response}
use Rattle.http_server.specs.Response.{fields_of}
use Rattle.http_server.specs.declared.state.Config.{Config}
use Rattle.http_server.specs.History.{History, IsServed}
use Rattle.jsp_status.specs.declared.asked.Asked.{Asked}
use Rattle.jsp_status.specs.declared.asked.Asked.TheVariants.{Page, Json, Metrics, UnknownPath, UnknownMethod}
use Rattle.jsp_status.specs.declared.status.Status.{Status}
use Rattle.jsp_status.specs.Data.{status_data}
use Rattle.jsp_status.specs.Metrics.{metrics_of}
use Rattle.jsp_status.specs.Page.{page_of}

-- what a method and a path ask for
abbrev pub asked_of : List ℕ → List ℕ → Asked
asked_of method path =
    if bytes_eq method (codes "GET") || bytes_eq method (codes "HEAD") then (
    if bytes_eq path (codes "/") then Page else (
    if bytes_eq path (codes "/status.json") then Json else (
    if bytes_eq path (codes "/metrics") then Metrics else UnknownPath)))
    else UnknownMethod

abbrev pub code_of : Asked → ℕ
code_of Page = 200
code_of Json = 200
code_of Metrics = 200
code_of UnknownPath = 404
code_of UnknownMethod = 405

abbrev pub body_for : Status → Asked → List ℕ
body_for status Page = page_of status
body_for status Json = compact_text (status_data status)
body_for status Metrics = metrics_of status
body_for status UnknownPath = []
body_for status UnknownMethod = []

abbrev pub closing : Header
closing = (codes "connection", codes "close")

-- the header of a body of this kind, which nobody is to keep
abbrev pub describing : List ℕ → List Header
describing kind = closing ∷ (codes "content-type", kind) ∷ (codes "cache-control", codes "no-store") ∷ []

abbrev pub headers_for : Asked → List Header
headers_for Page = describing (codes "text/html; charset=utf-8")
headers_for Json = describing (codes "application/json")
headers_for Metrics = describing (codes "text/plain; version=0.0.4; charset=utf-8")
headers_for UnknownPath = closing ∷ []
headers_for UnknownMethod = closing ∷ (codes "allow", codes "GET, HEAD") ∷ []

-- what a request asks for
abbrev pub asked_by : Request (List ℕ) → Asked
asked_by request = asked_of (head_of request).method (uri_path (head_of request).uri)

-- the response to the request
pub record IsAnswer (status : Status) (request : Request (List ℕ)) (response : Response) : Type 0 where
  pub code : response.status ≡ code_of (asked_by request)
  pub headers : fields_of response ≡ headers_for (asked_by request)
  pub body : response.body.items ≡ body_for status (asked_by request)

-- What was read and written are the requests and answers of an HTTP connection within these limits, each answer about the
-- status. The options are what a reader still holds and a writer got, before and after, where they tell that.
pub record Answers (limits : Config) (status : Status) (read unread written grown : Option (List ℕ)) (h : History) : Type 0 where
  pub received : Consumes read unread h.received
  pub sent : Appends written grown h.sent
  pub served : ∥ IsServed limits h ∥₁
  pub about : All (λ call. IsAnswer status call.0 call.1) h.calls
