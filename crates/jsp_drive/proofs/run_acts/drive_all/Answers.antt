use Rattle.std.proofs.Common.{◌≡◌, ◌+◌, ap, sym, ◌∙◌, subst, ◌∷◌, [], drop, List}
use Rattle.std.proofs.lemmas.List.{drop_more, drop_all}
use Rattle.jsp_drive.specs.declared.acts.Act.{Act}
use Rattle.jsp_drive.proofs.Tying.{Between, Driving, driving_start, acted, said_by, driving_more, driving_end, between_at_first}
use Rattle.jsp_drive.proofs.run_acts.drive_all.Goals as goal

pub loop-n-init : goal.loop-n-init
loop-n-init g c = (
  c.requires.bound,
  rw (c.new-steps.ensures.items, c.new-sent.ensures.items)
      (driving_start (g.H.House.view c.args.house) c.new-lines.result c.args.acts.now (subst Between (sym c.requires.view) (between_at_first c.args.config.now)) c.new-lines.ensures.empty),
)

pub send_all-requires-clause-rising : goal.send_all-requires-clause-rising
send_all-requires-clause-rising g c = (said_by _ _ _ _ _ _ _ c.in_ok-perform.ensures.performs c.loop-n.invariant.1.between).rising

pub send_all-requires-clause-from_one : goal.send_all-requires-clause-from_one
send_all-requires-clause-from_one g c = (said_by _ _ _ _ _ _ _ c.in_ok-perform.ensures.performs c.loop-n.invariant.1.between).from_one

pub loop-n-preserved : goal.loop-n-preserved
loop-n-preserved g c =
    let acts = c.args.acts.now in
    let n = c.loop-n.n in
    let act = c.index-acts-n.result in
    let left : drop n acts ≡ act ∷ drop (n + 1) acts = drop_more acts n act c.loop-n-test.true ∙ ap (λ (w : Act). w ∷ drop (n + 1) acts) (sym c.index-acts-n.is) in
    let d = subst (λ (w : List Act). Driving (g.H.House.view c.args.house) (g.H.House.view c.loop-n.house) c.loop-n.lines n acts w c.loop-n.steps.items c.loop-n.sent.items) left c.loop-n.invariant.1 in
    (c.in_ok-send_all.ensures.bound ∙ c.in_ok-perform.ensures.bound ∙ c.loop-n.invariant.0, driving_more _ _ _ _ _ _ _ _ _ _ _ _ _ d (acted _ _ _ _ _ _ _ _ _ _ _ _ c.loop-n.invariant.1.between c.in_ok-perform.ensures.performs c.in_ok-send_all.ensures.sends))

pub returns : goal.returns
returns g c =
    let none : drop c.loop-n.n c.args.acts.now ≡ [] = drop_all c.loop-n.n c.args.acts.now c.loop-n-test.false in
    rw (← c.requires.view) (driving_end _ _ _ _ _ _ _ _ c.loop-n.invariant.1 none)
