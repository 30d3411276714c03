use Rattle.std.proofs.Common.{◌≡◌, ◌+◌, ◌-◌, ◌∙◌, ap, arith, length}
use Rattle.jsp_lease.specs.Tournament.{living}
use Rattle.jsp_lease.proofs.Adding.{numbers_of, row_of, row_kept, row_living, row_room}
use Rattle.jsp_lease.proofs.leases.Leases.with_room.Goals as goal

pub invariant_of-result : goal.invariant_of-result
invariant_of-result c =
    let inside = c.self.inside in
    let items = c.in_ok-items.items.items in
    let empty = c.len-2.result + c.max-spare.result - length c.as_slice-3.result.now in
    let is : items ≡ living inside.tournament = c.in_ok-items.ensures ∙ ap living c.as_slice.ensures in
    let named : c.in_ok-numbers_of.field-0.items ≡ numbers_of items = c.in_ok-numbers_of.ensures.numbers ∙ ap numbers_of c.as_slice-2.ensures.value in
    let made : c.in_ok-tournament_of.field-0 ≡ row_of items empty = c.in_ok-tournament_of.ensures ∙ ap (λ w. row_of w empty) c.as_slice-3.ensures.value in
    row_kept inside.numbers.items c.in_ok-numbers_of.field-0.items inside.tournament c.in_ok-tournament_of.field-0 items inside.last empty _ c.self.invariant.kept c.self.invariant.within is named made
    (omega (arith, c.len-2.ensures, c.as_slice-3.ensures.len, ap length c.as_slice-3.ensures.value, c.in_ok-numbers_of.ensures.room))

pub returns : goal.returns
returns c =
    let items = c.in_ok-items.items.items in
    let empty = c.len-2.result + c.max-spare.result - length c.as_slice-3.result.now in
    let named : c.in_ok-numbers_of.field-0.items ≡ numbers_of items = c.in_ok-numbers_of.ensures.numbers ∙ ap numbers_of c.as_slice-2.ensures.value in
    let made : c.in_ok-tournament_of.field-0 ≡ row_of items empty = c.in_ok-tournament_of.ensures ∙ ap (λ w. row_of w empty) c.as_slice-3.ensures.value in
    let seen : items ≡ c.args.self.now.items = c.in_ok-items.ensures ∙ (ap living c.as_slice.ensures ∙ ap (λ w. w.items) c.self.view_is) in (
      ap living made ∙ (row_living items empty ∙ seen),
      ap (λ w. w.last) c.self.view_is,
      omega (arith, row_room c.in_ok-numbers_of.field-0.items c.in_ok-tournament_of.field-0 items empty named made, c.len-2.ensures, c.as_slice-3.ensures.len, c.max-spare.ensures, c.max.ensures),
    )
