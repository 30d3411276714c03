use Rattle.std.proofs.Common.{◌≡◌, ◌≤◌, length, take, ap, arith, rules}
use Rattle.std.specs.Prelude.{filter, is_some}
use Rattle.std.proofs.lemmas.Fn.{filter_same}
use Rattle.std.proofs.lemmas.Grind.{common_steps}
use Rattle.jsp_table.specs.Places.{HaveNumbers}
use Rattle.jsp_table.proofs.Standing.{Compacts, compacted}
use Rattle.jsp_table.proofs.table.compact.Goals as goal

pub returns : goal.returns
returns g c =
    let num = g.N.Numbering.number_of in
    let places' = c.retain.new.self.items in
    let made = c.slots.numbers.items in
    let is : places' ≡ filter is_some c.args.slots.now.items = filter_same _ _ _ (λ x b f' k. search rules) _ _ c.retain.ensures.filtered in
    let count : c.slots.place ≡ length places' = omega (arith, c.slots-test.false, c.slots.auto.place-end, c.deref-slot-items.ensures.len, c.retain.new.self.ok, ap length c.deref-slot-items.ensures.value) in
    let le : length places' ≤ length made = omega (arith, c.slots.invariant.size, c.retain.ensures.bound, c.requires.size, c.args.slots.now.ok, c.retain.new.self.ok) in
    let have : HaveNumbers num made places' (length places') = λ k thing lt at. c.slots.invariant.numbered k thing (omega arith) (grind (arith, common_steps)) in
    let cut : c.truncate.new.self.items ≡ take (length places') made = grind (arith, common_steps) in
    let done : Compacts num c.args.slots.now.items c.truncate.new.self.items places' = compacted num c.args.numbers.now.items c.truncate.new.self.items made c.args.slots.now.items places' c.requires is le have cut in
    record { kept = done.kept; things = done.things; tight = done.tight; room = search rules; fewer = first_of (search rules, grind (arith, common_steps)) }
