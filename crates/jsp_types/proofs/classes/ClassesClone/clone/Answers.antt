-- A copy finds the classes at the same places, and has the same names below each.
use Rattle.std.proofs.Common.{◌∙◌, ap, sym, subst}
use Rattle.jsp_types.specs.Known.{classes_of, AreKept}
use Rattle.jsp_types.specs.NameMaps.{looked_up}
use Rattle.jsp_types.specs.Places.{FindsAll}
use Rattle.jsp_types.specs.Descendants.{is_in, HasDescendants}
use Rattle.jsp_types.proofs.Descending.{HasDescendants-more}
use Rattle.jsp_types.proofs.Noting.{FindsAll-same}
use Rattle.jsp_types.proofs.classes.ClassesClone.clone.Goals as goal

pub invariant_of-result : goal.invariant_of-result
invariant_of-result c =
    let same = sym c.in_ok-copy_of.ensures in
    let known = c.self.inside.known in
    let places = looked_up c.in_ok-clone.field-0.shared in
    let lists = looked_up c.in_ok-clone-2.field-0.shared in
    record {
      kept = subst AreKept same c.self.invariant.kept;
      found =
          subst (FindsAll places) same
          (FindsAll-same (looked_up c.self.inside.places.shared) places known c.in_ok-clone.ensures.cases c.self.invariant.found);
      below =
          subst (λ all. HasDescendants (classes_of all) lists) same
          (HasDescendants-more (classes_of known) (looked_up c.self.inside.descendants.shared) lists
          (λ d name there. ap (λ names. is_in names name) (c.in_ok-clone-2.ensures.cases d) ∙ there) c.self.invariant.below);
    }
