use Rattle.std.proofs.Common.{◌≡◌, ap, sym, ◌∙◌, subst, arith, rules, option_copied}
use Rattle.std.proofs.lemmas.Grind.{common_steps}
use Rattle.jsp_table.specs.Finding.{numbered, AreNumbered}
use Rattle.jsp_table.specs.Places.{place_at}
use Rattle.jsp_table.proofs.Standing.{searched_there, searched_nowhere, kept_numbered}
use Rattle.jsp_table.proofs.table.Table.get.Goals as goal

pub returns-in_default : goal.returns-in_default
returns-in_default g c =
    let num = g.N.Numbering.number_of in
    let none = searched_nowhere num c.self.inside.numbers.items c.as_slice.result.now c.self.inside.slots.items c.args.number c.in_default.field-0 c.self.invariant c.as_slice.ensures.value c.in_default.ensures.position c.in_default.ensures.bound in
    record {
      found = sym (ap (λ w. numbered num c.args.number w) (sym c.self.view_is) ∙ none.0);
      rising = subst (AreNumbered num) c.self.view_is (kept_numbered num c.self.inside.numbers.items c.self.inside.slots.items c.self.invariant);
    }

pub returns : goal.returns
returns g c =
    let num = g.N.Numbering.number_of in
    let there = searched_there num c.self.inside.numbers.items c.as_slice.result.now c.self.inside.slots.items c.args.number c.in-Ok.place c.self.invariant c.as_slice.ensures.value c.in-Ok.ensures.position in
    let e : option_copied c.as_ref.result ≡ place_at c.self.inside.slots.items c.in-Ok.place = first_of (search rules, grind (arith, common_steps)) in
    record {
      found = e ∙ (sym there ∙ ap (λ w. numbered num c.args.number w) c.self.view_is);
      rising = subst (AreNumbered num) c.self.view_is (kept_numbered num c.self.inside.numbers.items c.self.inside.slots.items c.self.invariant);
    }
