use Rattle.std.proofs.Common.{◌≡◌, sym, subst, arith, rules}
use Rattle.std.specs.List.{remove}
use Rattle.std.proofs.lemmas.Grind.{common_steps}
use Rattle.jsp_table.specs.Numbers.{AreIncreasing}
use Rattle.jsp_table.proofs.Rising.{contains_less, found_by, remove_increasing}
use Rattle.jsp_table.proofs.few.remove_from_few.Goals as goal

pub returns-in-Ok-clause-increasing : goal.returns-in-Ok-clause-increasing
returns-in-Ok-clause-increasing c =
    let xs = c.args.numbers.now.items in
    let f = found_by xs c.as_slice.result.now c.args.number c.in-Ok.place c.requires c.as_slice.ensures.value c.in-Ok.ensures.position in
    let e : c.remove.new.self.items ≡ remove xs c.in-Ok.place = first_of (search rules, grind (arith, common_steps)) in
    subst AreIncreasing (sym e) (remove_increasing xs c.in-Ok.place f.0 c.requires)

pub returns-in-Ok-clause-keeps : goal.returns-in-Ok-clause-keeps
returns-in-Ok-clause-keeps c m ne h =
    let xs = c.args.numbers.now.items in
    let f = found_by xs c.as_slice.result.now c.args.number c.in-Ok.place c.requires c.as_slice.ensures.value c.in-Ok.ensures.position in
    let e : c.remove.new.self.items ≡ remove xs c.in-Ok.place = first_of (search rules, grind (arith, common_steps)) in
    rw e (contains_less xs c.in-Ok.place c.args.number m f.1 ne h)
