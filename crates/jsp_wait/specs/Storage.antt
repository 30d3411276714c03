-- The requests that wait, however they are kept.
use Rattle.std.specs.Prelude.{List}
use Rattle.jsp_model.specs.declared.state.Blocked.{Blocked}
use Rattle.jsp_wait.specs.declared.waiters.Storage.{Storage}
use Rattle.jsp_wait.specs.declared.waiters.Storage.TheVariants.{Scanned, Keyed}

abbrev pub requests_in : Storage → List Blocked
requests_in (Scanned requests) = requests.items
requests_in (Keyed requests) = requests
