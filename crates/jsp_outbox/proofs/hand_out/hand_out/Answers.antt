use Rattle.std.proofs.Common.{◌∙◌, ap, sym, take}
use Rattle.std.proofs.lemmas.Result.{IfOk-weaker}
use Rattle.jsp_outbox.proofs.Handing.{handed, handed_none, answers_are, take_none}
use Rattle.jsp_outbox.proofs.hand_out.hand_out.Goals as goal

pub returns-in-None-clause-answers : goal.returns-in-None-clause-answers
returns-in-None-clause-answers c =
    let none = rw c.as_slice.ensures.value at (sym c.place_of.ensures ∙ c.in-None.is) in
    take_none c.args.count c.new.result.items _ c.new.ensures.items (handed_none c.args.queues.now.items c.args.session c.args.count c.requires none).1

pub returns-in-None-clause-ok : goal.returns-in-None-clause-ok
returns-in-None-clause-ok c = (handed_none c.args.queues.now.items c.args.session c.args.count c.requires (rw c.as_slice.ensures.value at (sym c.place_of.ensures ∙ c.in-None.is))).0

pub returns-in-Some-clause-answers : goal.returns-in-Some-clause-answers
returns-in-Some-clause-answers c =
    let is = rw c.as_slice.ensures.value at (sym c.place_of.ensures ∙ c.in-Some.is) in
    IfOk-weaker c.take_first.result _ _ (λ v h. h.0 ∙ ap (take c.args.count) (answers_are c.args.queues.now.items c.args.session c.in-Some.place is)) c.take_first.ensures.ok

pub returns-in-Some-clause-ok : goal.returns-in-Some-clause-ok
returns-in-Some-clause-ok c =
    let is = rw c.as_slice.ensures.value at (sym c.place_of.ensures ∙ c.in-Some.is) in
    IfOk-weaker c.take_first.result _ _ (λ v h. h.1 ∙ handed c.args.session c.args.count c.in-Some.place c.args.queues.now.items c.requires is) c.take_first.ensures.ok
