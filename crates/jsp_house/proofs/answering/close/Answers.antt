use Rattle.std.proofs.Common.{◌≡◌, true, sym, ◌∙◌, length, ◌<◌, arith, subst}
use Rattle.jsp_model.specs.declared.state.State.{State}
use Rattle.jsp_model.specs.Lookup.{is_open}
use Rattle.jsp_model.proofs.Sessions.{shut_closes_one}
use Rattle.jsp_house.proofs.HandingOut.{makes_shut}
use Rattle.jsp_house.proofs.answering.close.Goals as goal

pub returns-then-is_open-clause-steps : goal.returns-then-is_open-clause-steps
returns-then-is_open-clause-steps c =
    let there = rw c.state.ensures.state at (sym c.is_open.ensures ∙ c.if-is_open.true) in
    makes_shut c.args.image.now c.shut.new.image c.args.log.now.items c.enter.new.log.items c.args.session there c.shut.ensures c.enter.ensures.items

pub returns-then-is_open-clause-room : goal.returns-then-is_open-clause-room
returns-then-is_open-clause-room c =
    let there : is_open c.args.image.now c.args.session ≡ true = rw c.state.ensures.state at (sym c.is_open.ensures ∙ c.if-is_open.true) in
    let fewer : length c.shut.new.image.sessions < length c.args.image.now.sessions = subst (λ (s : State). length s.sessions < length c.args.image.now.sessions) (sym c.shut.ensures) (shut_closes_one c.args.image.now c.args.session there) in
    λ h. omega (arith, h, fewer, c.enter.ensures.len, c.enter.ensures.capacity, c.requires)
