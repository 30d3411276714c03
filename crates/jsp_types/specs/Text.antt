-- The bytes of a text, however it is kept.
use Rattle.std.specs.Prelude.{ℕ, List}
use Rattle.std.specs.Arc.{arc_str_bytes}
use Rattle.jsp_types.specs.declared.text.Storage.{Storage}
use Rattle.jsp_types.specs.declared.text.Storage.TheVariants.{Short, Long}

abbrev pub bytes_of : Storage → List ℕ
bytes_of (Short text) = text
bytes_of (Long text) = arc_str_bytes text
