use Rattle.std.proofs.Common.{rules, ◌≡◌, ◌<◌, ◌-◌, length, refl}
use Rattle.jsp_model.specs.House.{handed_out}
use Rattle.jsp_kept.proofs.Owns.{hand_out_own, lawful_within}
use Rattle.jsp_kept.proofs.Keeping.{grows_by_out}
use Rattle.jsp_kept.proofs.Growing.{grows_in_era}
use Rattle.jsp_kept.proofs.Counting.{whole_by_out}
use Rattle.jsp_kept.proofs.kept.Kept.hand_out_in_era.Goals as goal

pub invariant_of-self-2 : goal.invariant_of-self-2
invariant_of-self-2 g c =
    let s = c.seat.inside.session in
    let n = length c.in_ok-answers.answers.items in
    let count : c.len-count.result ≡ n = search rules in
    let lawful = rw (← c.self.view_is, ← c.seat.view_is) at c.requires.lawful in
    let within : s - 1 < length c.self.inside.taken.items = lawful_within _ _ _ lawful in
    whole_by_out _ _ _ _ (handed_out s n) _ _ s n c.self.invariant
    (record {
      era = record { spaces = refl; era = refl; is_sealed = refl };
      makes = c.in_ok-answers.ensures.steps;
      room = c.hand_out.ensures.room;
      bound = c.hand_out.ensures.bound;
      before_is = search rules;
      after_is = search rules;
      limit = refl;
      shares = record { asks_parts = refl; asks_amount = refl; outs_parts = refl; outs_amount = refl };
    })
    (hand_out_own s n) c.seat.invariant.2 within (rw (← count) c.raise.ensures) (rw (← count) c.add.ensures.total) (record { asked = refl; book = refl }) refl (rw (← count) refl)

pub returns-clause-steps : goal.returns-clause-steps
returns-clause-steps g c =
    let s = c.seat.inside.session in
    let n = length c.in_ok-answers.answers.items in
    let count : c.len-count.result ≡ n = search rules in
    let lawful = rw (← c.self.view_is, ← c.seat.view_is) at c.requires.lawful in
    rw (← c.self.view_is, ← c.seat.view_is) (grows_in_era _ _ (handed_out s n) (record { spaces = refl; era = refl; is_sealed = refl }) c.in_ok-answers.ensures.steps
    (grows_by_out _ _ _ s n c.self.invariant.kept (hand_out_own s n) c.seat.invariant.2 (lawful_within _ _ _ lawful) (rw (← count) c.raise.ensures) (rw (← count) c.add.ensures.total) (record { asked = refl; book = refl })))
