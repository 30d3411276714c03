-- Each class is found by its name, the last one too, and that one stands below those above it.
use Rattle.std.proofs.Common.{◌∙◌, ap, length, refl}
use Rattle.jsp_types.specs.declared.known.Known.{Known}
use Rattle.jsp_types.specs.NameMaps.{looked_up}
use Rattle.jsp_types.proofs.Noting.{FindsAll-kept, FindsAll-unkept}
use Rattle.jsp_types.proofs.adding.keep.Goals as goal

pub returns-clause-found : goal.returns-clause-found
returns-clause-found c =
    FindsAll-kept (looked_up c.args.places.now.shared) (looked_up c.note.new.self.shared) c.args.known.now c.push.new.self c.args.shared c.as_str.result.now (length c.as_slice-place.result.now) c.requires.new c.requires.found
    c.in_ok-note.ensures.ok (c.as_str.ensures ∙ ap (λ (k : Known). k.class.name) c.get.ensures) (ap length c.as_slice-place.ensures) c.in_ok-push.ensures.ok

pub returns-in_err-push-clause-found : goal.returns-in_err-push-clause-found
returns-in_err-push-clause-found c =
    FindsAll-unkept (looked_up c.args.places.now.shared) (looked_up c.note.new.self.shared) c.args.known.now c.push.new.self c.args.shared c.as_str.result.now (length c.as_slice-place.result.now) c.requires.new c.requires.found
    c.in_ok-note.ensures.ok (c.as_str.ensures ∙ ap (λ (k : Known). k.class.name) c.get.ensures) (ap length c.as_slice-place.ensures) c.in_err-push.ensures.err

pub returns-in_err-note_line-clause-found : goal.returns-in_err-note_line-clause-found
returns-in_err-note_line-clause-found c =
    FindsAll-unkept (looked_up c.args.places.now.shared) (looked_up c.note.new.self.shared) c.args.known.now c.args.known.now c.args.shared c.as_str.result.now (length c.as_slice-place.result.now) c.requires.new c.requires.found
    c.in_ok-note.ensures.ok (c.as_str.ensures ∙ ap (λ (k : Known). k.class.name) c.get.ensures) (ap length c.as_slice-place.ensures) refl

pub returns-clause-below : goal.returns-clause-below
returns-clause-below c name above line = c.in_ok-note_line.ensures.ok name above (c.as_slice.ensures ∙ ap (λ (k : Known). k.line) c.get-2.ensures ∙ line)
