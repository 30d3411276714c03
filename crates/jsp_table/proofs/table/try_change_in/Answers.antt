use Rattle.std.proofs.Common.{◌≡◌, eqb, option_map, refl, sym, arith, rules}
use Rattle.std.proofs.lemmas.Grind.{common_steps}
use Rattle.jsp_table.specs.Places.{place_at}
use Rattle.jsp_table.proofs.Standing.{missed}
use Rattle.jsp_table.proofs.Changing.{none_changed, one_kept, one_done}
use Rattle.jsp_table.proofs.table.try_change_in.Goals as goal

pub returns-in_default-clause-ok : goal.returns-in_default-clause-ok
returns-in_default-clause-ok g c =
    let num = g.N.Numbering.number_of in
    let none = missed num c.args.numbers.now c.args.numbers.now c.args.slots.now.items c.args.number c.in_default.field-0 c.requires.kept refl c.in_default.ensures.position c.in_default.ensures.bound in
    sym (none_changed (λ x. eqb (num x) c.args.number) (g.C.TryChange.changed c.args.change.now) c.args.slots.now.items none)

pub returns-clause-kept : goal.returns-clause-kept
returns-clause-kept g c =
    let num = g.N.Numbering.number_of in
    let f = g.C.TryChange.changed c.args.change.now in
    let new : c.try_change_slot.new.slot ≡ option_map f (place_at c.args.slots.now.items c.in-Ok.place) = first_of (search rules, grind (arith, common_steps)) in
    rw new (one_kept num f c.requires.keeps c.args.numbers.now c.args.slots.now.items c.args.number c.in-Ok.place c.requires.kept c.in-Ok.ensures.position)

pub returns-clause-ok : goal.returns-clause-ok
returns-clause-ok g c =
    let num = g.N.Numbering.number_of in
    let f = g.C.TryChange.changed c.args.change.now in
    let new : c.try_change_slot.new.slot ≡ option_map f (place_at c.args.slots.now.items c.in-Ok.place) = first_of (search rules, grind (arith, common_steps)) in
    rw new (one_done num f c.args.numbers.now c.args.slots.now.items c.args.number c.in-Ok.place c.requires.kept c.in-Ok.ensures.position)
