-- The class that is added is kept as the others are, found by its name, and named below those above it.
use Rattle.std.proofs.Common.{◌++◌, ◌∷◌, [], ◌∙◌, ap, sym, subst}
use Rattle.jsp_types.specs.declared.known.Known.{Known}
use Rattle.jsp_types.specs.Classes.{class_named}
use Rattle.jsp_types.specs.Known.{classes_of, AreKept}
use Rattle.jsp_types.specs.NameMaps.{looked_up}
use Rattle.jsp_types.specs.Descendants.{HasDescendants}
use Rattle.jsp_types.proofs.Descending.{HasDescendants-more, HasDescendants-added}
use Rattle.jsp_types.proofs.Joining.{AreKept-added}
use Rattle.jsp_types.proofs.Noting.{unknown_class, unknown_name}
use Rattle.jsp_types.proofs.classes.Classes.add.Goals as goal

pub keep-requires-clause-new : goal.keep-requires-clause-new
keep-requires-clause-new c =
    unknown_name c.self.inside.known c.args.self.now c.as_str.result.now c.in_ok-known.known.class.name c.known.result
    c.self.view_is c.known.ensures (sym c.is_some.ensures ∙ c.if-is_some.false) (ap (λ (k : Known). k.class.name) c.in_ok-known.ensures ∙ sym c.as_str.ensures)

pub invariant_of-self-2 : goal.invariant_of-self-2
invariant_of-self-2 c =
    let k : Known = record { class = c.args.class; line = c.in_ok-line.line; fields = c.in_ok-fields.fields } in
    let absent = sym c.is_some.ensures ∙ c.if-is_some.false in
    let grows = c.in_ok-keep.ensures.ok ∙ ap (λ (k : Known). c.self.inside.known ++ k ∷ []) c.in_ok-known.ensures in
    record {
      kept =
          AreKept-added c.self.inside.known c.keep.new.known c.args.self.now k c.as_str.result.now c.known.result c.line_above.result.now c.inherited.result.now c.as_slice.result.now
          c.self.invariant.kept c.self.view_is c.as_str.ensures c.known.ensures absent c.requires c.line_above.ensures c.in_ok-line.ensures c.inherited.ensures c.as_slice.ensures c.in_ok-fields.ensures grows;
      found = c.keep.ensures.found;
      below =
          HasDescendants-added c.self.inside.known c.keep.new.known c.args.self.now k c.line_above.result.now (looked_up c.self.inside.descendants.shared) (looked_up c.keep.new.descendants.shared)
          c.self.invariant.kept c.self.view_is (ap (class_named c.args.self.now) (sym c.as_str.ensures) ∙ unknown_class c.args.self.now c.as_str.result.now c.known.result c.known.ensures absent) c.requires
          c.line_above.ensures c.in_ok-line.ensures grows c.keep.ensures.keeps
          (λ name above line. c.in_ok-keep.ensures.below name above (ap (λ (k : Known). k.line) c.in_ok-known.ensures ∙ line)) c.self.invariant.below;
    }

pub invariant_of-self : goal.invariant_of-self
invariant_of-self c = record {
  kept = subst AreKept (sym c.in_err-keep.ensures.err) c.self.invariant.kept;
  found = c.keep.ensures.found;
  below =
      subst (λ known. HasDescendants (classes_of known) (looked_up c.keep.new.descendants.shared)) (sym c.in_err-keep.ensures.err)
      (HasDescendants-more (classes_of c.self.inside.known) (looked_up c.self.inside.descendants.shared) (looked_up c.keep.new.descendants.shared) c.keep.ensures.keeps c.self.invariant.below);
}
