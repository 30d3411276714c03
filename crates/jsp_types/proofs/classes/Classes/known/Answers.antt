-- What is found among the kept classes is kept of the class of that name.
use Rattle.std.proofs.Common.{◌∙◌, ap}
use Rattle.jsp_types.specs.NameMaps.{looked_up}
use Rattle.jsp_types.specs.Places.{found_at}
use Rattle.jsp_types.proofs.Finding.{known_named, known_is_kept}
use Rattle.jsp_types.proofs.classes.Classes.known.Goals as goal

pub returns-then-known-le-FEW : goal.returns-then-known-le-FEW
returns-then-known-le-FEW c =
    known_is_kept c.self.inside.known c.args.self.now c.args.name.now c.first_named.result c.self.invariant.kept c.self.view_is
    (c.first_named.ensures ∙ ap (λ s. known_named s c.args.name.now) c.as_slice-known.ensures)

pub returns : goal.returns
returns c =
    known_is_kept c.self.inside.known c.args.self.now c.args.name.now c.find_known.result c.self.invariant.kept c.self.view_is
    (c.find_known.ensures ∙ ap (λ s. found_at (looked_up c.self.inside.places.shared) s c.args.name.now) c.as_slice-known.ensures ∙ c.self.invariant.found c.args.name.now)
