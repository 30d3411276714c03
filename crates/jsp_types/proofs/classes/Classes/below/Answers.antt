-- The list of a name has each class that stands below it.
use Rattle.jsp_types.specs.Known.{classes_of}
use Rattle.jsp_types.specs.NameMaps.{looked_up}
use Rattle.jsp_types.proofs.Descending.{named_below}
use Rattle.jsp_types.proofs.classes.Classes.below.Goals as goal

pub returns : goal.returns
returns c class sub =
    named_below (classes_of c.self.inside.known) c.args.self.now (looked_up c.self.inside.descendants.shared) class c.args.name.now c.get.result.now
    c.self.view_is c.self.invariant.below c.get.ensures sub
