use Rattle.std.proofs.Common.{◌≡◌, true, length, sym, arith, rules}
use Rattle.std.specs.Prelude.{◌==◌}
use Rattle.std.proofs.lemmas.Grind.{common_steps}
use Rattle.jsp_notify.proofs.Listening.{one_told}
use Rattle.jsp_notify.proofs.naming.forget_told.Goals as goal

pub returns-then-is_empty : goal.returns-then-is_empty
returns-then-is_empty c =
    let r = c.in-Some.registration.now in
    let none : (length r.owed == 0) ≡ true = first_of (search rules, grind (arith, common_steps)) in
    one_told c.args.owed.now c.remove.new.self c.args.number r c.args.registrations.now c.places.ensures.rising (sym c.in-Some.ensures) none c.remove.ensures c.requires
