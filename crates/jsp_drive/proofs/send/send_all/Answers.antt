use Rattle.std.proofs.Common.{◌<◌, ◌∙◌, ◌++◌, List, length, arith, refl, ap, sym}
use Rattle.std.specs.Prelude.{map}
use Rattle.jsp_reply.specs.declared.reply.Reply.{Reply}
use Rattle.jsp_drive.specs.Tie.{frame_for}
use Rattle.jsp_drive.proofs.Sending.{sending_start, sending_more, sends_all}
use Rattle.jsp_drive.proofs.send.send_all.Goals as goal

pub sessions-init : goal.sessions-init
sessions-init g c = (refl, sending_start _ _ _ _ c.requires.rising c.requires.from_one)

pub sessions-smaller : goal.sessions-smaller
sessions-smaller g c =
    let answers = c.in-Ok.answers in
    let short : length answers.items < 18446744073709551615 = omega (arith, answers.small, answers.ok.0, answers.ok.1) in
    (sending_more c.args.act c.in-Some.session 18446744073709551615 (g.H.House.view c.args.house.now) (g.H.House.view c.sessions.house) (g.H.House.view c.hand_out.new.self) _ _ _ _ _ _ answers.items
    c.sessions.invariant.1 (sym c.next_waiting.ensures ∙ c.in-Some.is) c.in-Ok.ensures.answers short c.in-Ok.ensures.steps
    (c.in_ok-send_to-in-Ok.ensures ∙ ap (λ (w : List Reply). c.sessions.sent.items ++ map (frame_for c.args.act c.in-Some.session) w) c.as_slice.ensures.value)).1

pub sessions-preserved : goal.sessions-preserved
sessions-preserved g c =
    let answers = c.in-Ok.answers in
    let short : length answers.items < 18446744073709551615 = omega (arith, answers.small, answers.ok.0, answers.ok.1) in (
      c.hand_out.ensures.bound.same ∙ c.sessions.invariant.0,
      (sending_more c.args.act c.in-Some.session 18446744073709551615 (g.H.House.view c.args.house.now) (g.H.House.view c.sessions.house) (g.H.House.view c.hand_out.new.self) _ _ _ _ _ _ answers.items
          c.sessions.invariant.1 (sym c.next_waiting.ensures ∙ c.in-Some.is) c.in-Ok.ensures.answers short c.in-Ok.ensures.steps
          (c.in_ok-send_to-in-Ok.ensures ∙ ap (λ (w : List Reply). c.sessions.sent.items ++ map (frame_for c.args.act c.in-Some.session) w) c.as_slice.ensures.value)).0,
    )

pub returns-clause-sends : goal.returns-clause-sends
returns-clause-sends g c = sends_all _ _ _ _ _ _ _ c.sessions.invariant.1 (sym c.next_waiting.ensures ∙ c.in_default.is)
