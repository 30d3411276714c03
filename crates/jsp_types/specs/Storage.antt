-- What is kept of all classes.
use Rattle.std.specs.Prelude.{List}
use Rattle.jsp_types.specs.declared.known.Known.{Known}
use Rattle.jsp_types.specs.declared.places.Places.{Places}
use Rattle.jsp_types.specs.declared.descendants.Descendants.{Descendants}
use Rattle.jsp_types.specs.Known.{classes_of, AreKept}
use Rattle.jsp_types.specs.NameMaps.{looked_up}
use Rattle.jsp_types.specs.Places.{FindsAll}
use Rattle.jsp_types.specs.Descendants.{HasDescendants}

-- each class is kept, is found by its name, and has those below it in its list
pub record AreKeptWith (known : List Known) (places : Places) (descendants : Descendants) : Type 0 where
  pub kept : AreKept known
  pub found : FindsAll (looked_up places.shared) known
  pub below : HasDescendants (classes_of known) (looked_up descendants.shared)
