use Rattle.std.proofs.Common.{◌≡◌, ◌==◌, ◌+◌, [], ◌∷◌, ◌++◌, sym, subst, length, take, rules, tests, arith}
use Rattle.std.proofs.lemmas.List.{length_push, take_all}
use Rattle.std.proofs.lemmas.List.FromFn.{length-enumerate_from}
use Rattle.std.proofs.lemmas.Iterator.Splits.{YieldsList-from_slice_split}
use Rattle.std.proofs.lemmas.Iterator.Consumers.{YieldsList-from_enumerate, YieldsList-turn, YieldsList-end}
use Rattle.jsp_script.specs.Script.{lines_of, IsReadAs, AreActsOf}
use Rattle.jsp_script.proofs.Asking.{numbered, more_passed, more_asked, first_refused}
use Rattle.jsp_script.proofs.lines.read_acts.Goals as goal

pub returns-clause-acts : goal.returns-clause-acts
returns-clause-acts c =
    let lines = lines_of c.args.text.now in
    let all = YieldsList-end (YieldsList-from_enumerate (YieldsList-from_slice_split _ (λ b. b == 10) c.args.text.now (cc) (cc) (cc) (λ x r q k. search (rules, tests))) (cc)) c.lines.yielded _ c.lines.yielded_by _ _ c.in-None.is c.next.ensures.steps in
    let whole : take (length c.lines.yielded) lines ≡ lines = take_all (length c.lines.yielded) lines (omega (arith, all.1, length-enumerate_from 0 lines)) in
    subst (λ ls. AreActsOf ls c.lines.acts.items) whole c.lines.invariant

pub lines-preserved-in-PassedOver : goal.lines-preserved-in-PassedOver
lines-preserved-in-PassedOver c =
    let lines = lines_of c.args.text.now in
    let turn = YieldsList-turn (YieldsList-from_enumerate (YieldsList-from_slice_split _ (λ b. b == 10) c.args.text.now (cc) (cc) (cc) (λ x r q k. search (rules, tests))) (cc)) c.lines.yielded _ c.lines.yielded_by _ _ (c.in-Some.place, c.in-Some.line) c.in-Some.is c.next.ensures.steps in
    let at = numbered lines (length c.lines.yielded) c.in-Some.place c.in-Some.line.now turn.0 turn.1 in
    let passed = subst (IsReadAs c.in-Some.line.now) c.in-PassedOver.is c.in_ok-read_line.ensures in
    subst (λ k. AreActsOf (take k lines) c.lines.acts.items) (sym (length_push c.lines.yielded (c.in-Some.place, c.in-Some.line)))
    (more_passed lines (length c.lines.yielded) c.in-Some.line.now c.lines.acts.items at.0 at.2 passed c.lines.invariant)

pub lines-preserved : goal.lines-preserved
lines-preserved c =
    let lines = lines_of c.args.text.now in
    let turn = YieldsList-turn (YieldsList-from_enumerate (YieldsList-from_slice_split _ (λ b. b == 10) c.args.text.now (cc) (cc) (cc) (λ x r q k. search (rules, tests))) (cc)) c.lines.yielded _ c.lines.yielded_by _ _ (c.in-Some.place, c.in-Some.line) c.in-Some.is c.next.ensures.steps in
    let at = numbered lines (length c.lines.yielded) c.in-Some.place c.in-Some.line.now turn.0 turn.1 in
    let asked = subst (IsReadAs c.in-Some.line.now) c.in-Act.is c.in_ok-read_line.ensures in
    let more = more_asked lines (length c.lines.yielded) c.in-Some.line.now c.lines.acts.items c.in-Act.act at.0 at.2 asked.0 asked.1 c.lines.invariant in
    let pushed : c.push.new.self.items ≡ c.lines.acts.items ++ c.in-Act.act ∷ [] = c.in_ok-push-in-Act.ensures.items in
    subst (λ k. AreActsOf (take k lines) c.push.new.self.items) (sym (length_push c.lines.yielded (c.in-Some.place, c.in-Some.line)))
    (subst (AreActsOf (take (length c.lines.yielded + 1) lines)) (sym pushed) more)

pub returns-in-NotUnderstood-clause-fault : goal.returns-in-NotUnderstood-clause-fault
returns-in-NotUnderstood-clause-fault c =
    let lines = lines_of c.args.text.now in
    let turn = YieldsList-turn (YieldsList-from_enumerate (YieldsList-from_slice_split _ (λ b. b == 10) c.args.text.now (cc) (cc) (cc) (λ x r q k. search (rules, tests))) (cc)) c.lines.yielded _ c.lines.yielded_by _ _ (c.in-Some.place, c.in-Some.line) c.in-Some.is c.next.ensures.steps in
    let at = numbered lines (length c.lines.yielded) c.in-Some.place c.in-Some.line.now turn.0 turn.1 in
    let refused = subst (IsReadAs c.in-Some.line.now) c.in-NotUnderstood.is c.in_ok-read_line.ensures in
    first_refused lines (length c.lines.yielded) c.in-Some.place c.in-Some.line.now c.lines.acts.items at.0 at.1 at.2 refused c.lines.invariant
