use Rattle.std.proofs.Common.{◌≡◌, ◌++◌, Some, map, ap, sym, ◌∙◌, subst, arith, rules}
use Rattle.std.proofs.lemmas.Grind.{common_steps}
use Rattle.jsp_table.specs.Finding.{AreNumbered}
use Rattle.jsp_table.specs.Places.{living, AreOver}
use Rattle.jsp_table.proofs.Standing.{append_kept, living_append, living_some, numbered_parts}
use Rattle.jsp_table.proofs.table.Table.append.Goals as goal

pub make_way_for-requires-clause-rising : goal.make_way_for-requires-clause-rising
make_way_for-requires-clause-rising g c =
    let all : living c.self.inside.slots.items ++ c.deref.result.now ≡ c.args.self.now ++ c.args.things.now.items = cc (c.self.view_is, c.deref.ensures.value) in
    subst (AreNumbered g.N.Numbering.number_of) (sym all) c.requires

pub append_things-requires : goal.append_things-requires
append_things-requires g c = omega (arith, c.in_ok-make_room-2.ensures.ok, c.len-2.ensures)

pub invariant_of-self-2 : goal.invariant_of-self-2
invariant_of-self-2 g c =
    let num = g.N.Numbering.number_of in
    let numbers = c.make_way_for.new.numbers.items in
    let places = c.make_way_for.new.slots.items in
    let things = c.args.things.now.items in
    let made : c.append_numbers.new.numbers.items ≡ numbers ++ map num things = first_of (search rules, grind (arith, common_steps)) in
    let put : c.append_things.new.slots.items ≡ places ++ map Some things = first_of (search rules, grind (arith, common_steps)) in
    let up = (numbered_parts num c.args.self.now things c.requires).0 in
    rw (made, put) (append_kept num numbers places things c.make_way_for.ensures.kept up (subst (AreOver num numbers) c.deref.ensures.value c.make_way_for.ensures.over))

pub returns-clause-ok : goal.returns-clause-ok
returns-clause-ok g c =
    let places = c.make_way_for.new.slots.items in
    let things = c.args.things.now.items in
    let put : c.append_things.new.slots.items ≡ places ++ map Some things = first_of (search rules, grind (arith, common_steps)) in
    let old : living places ≡ c.args.self.now = c.make_way_for.ensures.things ∙ c.self.view_is in
    ap living put ∙ (living_append places (map Some things) ∙ cc (old, living_some things))
