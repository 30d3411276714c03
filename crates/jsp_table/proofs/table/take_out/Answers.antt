use Rattle.std.proofs.Common.{◌≡◌, None, refl, sym, ◌∙◌, arith, rules}
use Rattle.std.proofs.lemmas.Grind.{common_steps}
use Rattle.jsp_table.specs.Places.{place_at}
use Rattle.jsp_table.proofs.Standing.{searched_there, searched_nowhere, taken_out, set_kept}
use Rattle.jsp_table.proofs.table.take_out.Goals as goal

pub returns-in_default : goal.returns-in_default
returns-in_default g c =
    let num = g.N.Numbering.number_of in
    let none = searched_nowhere num c.args.numbers.now c.args.numbers.now c.args.slots.now.items c.args.number c.in_default.field-0 c.requires refl c.in_default.ensures.position c.in_default.ensures.bound in
    record { kept = c.requires; answer = sym none.0; left = sym none.1 }

pub returns : goal.returns
returns g c =
    let num = g.N.Numbering.number_of in
    let places = c.args.slots.now.items in
    let place = c.in-Ok.place in
    let there = searched_there num c.args.numbers.now c.args.numbers.now places c.args.number place c.requires refl c.in-Ok.ensures.position in
    let stood : c.take.result ≡ place_at places place = first_of (grind (arith, common_steps), search rules) in
    rw c.take.ensures.after (record {
      kept = set_kept num c.args.numbers.now places place None c.requires (λ thing e. absurd (cc));
      answer = stood ∙ sym there;
      left = taken_out num c.args.numbers.now c.args.numbers.now places c.args.number place c.requires refl c.in-Ok.ensures.position;
    })
