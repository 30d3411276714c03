use Rattle.std.proofs.Common.{◌≡◌, sym, subst, arith, rules}
use Rattle.std.specs.List.{insert}
use Rattle.std.proofs.lemmas.Grind.{common_steps}
use Rattle.jsp_table.specs.Numbers.{AreIncreasing}
use Rattle.jsp_table.proofs.Rising.{contains_more, contains_at, inserted, found_by}
use Rattle.jsp_table.proofs.few.add_to_few.Goals as goal

pub returns-in_ok-insert-clause-increasing : goal.returns-in_ok-insert-clause-increasing
returns-in_ok-insert-clause-increasing c =
    let xs = c.args.numbers.now.items in
    let e : c.insert.new.self.items ≡ insert xs c.in-Err.place c.args.number = first_of (search rules, grind (arith, common_steps)) in
    subst AreIncreasing (sym e) (inserted xs c.as_slice.result.now c.args.number c.in-Err.place c.requires c.as_slice.ensures.value c.in-Err.ensures.position c.in-Err.ensures.bound)

pub returns-in_ok-insert-clause-keeps : goal.returns-in_ok-insert-clause-keeps
returns-in_ok-insert-clause-keeps c m h =
    let xs = c.args.numbers.now.items in
    let e : c.insert.new.self.items ≡ insert xs c.in-Err.place c.args.number = first_of (search rules, grind (arith, common_steps)) in
    rw e (contains_more xs c.in-Err.place c.args.number m h)

pub returns-in_default-clause-ok : goal.returns-in_default-clause-ok
returns-in_default-clause-ok c =
    let xs = c.args.numbers.now.items in
    let f = found_by xs c.as_slice.result.now c.args.number c.in_default.field-0 c.requires c.as_slice.ensures.value c.in_default.ensures.position in
    contains_at xs c.in_default.field-0 c.args.number f.0 f.1
