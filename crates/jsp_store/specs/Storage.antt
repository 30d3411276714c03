-- The rows, however they are kept.
use Rattle.std.specs.Prelude.{List}
use Rattle.jsp_model.specs.declared.state.Row.{Row}
use Rattle.jsp_decided.specs.Decided.{rows_of}
use Rattle.jsp_store.specs.declared.rows.Storage.{Storage}
use Rattle.jsp_store.specs.declared.rows.Storage.TheVariants.{Scanned, Hinted}

abbrev pub rows_in : Storage → List Row
rows_in (Scanned rows) = rows
rows_in (Hinted rows) = rows_of rows
