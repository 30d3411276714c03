use Rattle.std.proofs.Common.{◌≡◌, ◌-◌, ◌∙◌, ap, arith, length, vec_capacity}
use Rattle.std.proofs.lemmas.Grind.{common_steps}
use Rattle.jsp_lease.specs.Leases.{HasRoomFor}
use Rattle.jsp_lease.specs.Tournament.{living}
use Rattle.jsp_lease.proofs.Adding.{added_roomy, added_seen}
use Rattle.jsp_lease.proofs.leases.Leases.place.Goals as goal

pub invariant_of-self-2 : goal.invariant_of-self-2
invariant_of-self-2 c =
    let inside = c.self.inside in
    let roomy : HasRoomFor c.args.self.now 1 c.reserve.new.self = c.in_ok-reserve.ensures.ok in
    let seen : length inside.tournament - length inside.numbers.items ≡ c.reserve.new.self.room = ap (λ w. w.room) c.self.view_is in
    let last : inside.last ≡ c.reserve.new.self.last = ap (λ w. w.last) c.self.view_is in
    let at : c.len-place.result ≡ length inside.numbers.items = first_of (omega (arith, c.len-place.ensures, inside.numbers.ok), grind (arith, common_steps)) in
    added_roomy inside.numbers.items c.push.new.self.items inside.tournament c.set.new.self c.args.item c.len-place.result inside.last (vec_capacity inside.numbers) (vec_capacity c.push.new.self)
    c.self.invariant (omega (arith, roomy.last)) at (omega (arith, roomy.asked)) c.in_ok-push.ensures.items c.set.ensures c.in_ok-push.ensures.capacity

pub returns-clause-ok : goal.returns-clause-ok
returns-clause-ok c =
    let inside = c.self.inside in
    let roomy : HasRoomFor c.args.self.now 1 c.reserve.new.self = c.in_ok-reserve.ensures.ok in
    let seen : length inside.tournament - length inside.numbers.items ≡ c.reserve.new.self.room = ap (λ w. w.room) c.self.view_is in
    let items : living inside.tournament ≡ c.reserve.new.self.items = ap (λ w. w.items) c.self.view_is in
    let at : c.len-place.result ≡ length inside.numbers.items = first_of (omega (arith, c.len-place.ensures, inside.numbers.ok), grind (arith, common_steps)) in
    added_seen inside.numbers.items c.push.new.self.items inside.tournament c.set.new.self c.args.item c.len-place.result inside.last (vec_capacity inside.numbers) c.args.self.now
    c.self.invariant at (omega (arith, roomy.asked)) c.in_ok-push.ensures.items c.set.ensures (items ∙ roomy.items) (omega (arith, roomy.room))
