-- The things of a list, however they are kept.
use Rattle.std.specs.Prelude.{List}
use Rattle.jsp_list.specs.declared.indexed_list.Storage.{Storage}
use Rattle.jsp_list.specs.declared.indexed_list.Storage.TheVariants.{Scanned, Keyed}

abbrev pub things_in : {T K : Type 0} → Storage T K → List T
things_in (Scanned things) = things.items
things_in (Keyed things) = things
