use Rattle.std.proofs.Common.{◌∙◌, ℕ, ◌∷◌, [], Some, ap, sym}
use Rattle.std.proofs.lemmas.Result.{IfOk-weaker}
use Rattle.jsp_reply.specs.declared.reply.Reply.{Reply}
use Rattle.jsp_reply.specs.declared.reply.Reply.TheVariants as says
use Rattle.jsp_model.specs.Answers.{said_to_ask}
use Rattle.jsp_requests.proofs.Asking.{own_good}
use Rattle.jsp_machine.proofs.JudgedRequests.{is_refused, is_plain, rows_given, rows_some, rows_said, plain_given, plain_said}
use Rattle.jsp_machine.proofs.answering.said_to_ask.Goals as goal

pub returns-in-Refused : goal.returns-in-Refused
returns-in-Refused c =
    let why = is_refused c.args.state.now c.args.session c.args.asked.now.id c.args.asked.now.ask c.in-Refused.refusal (sym c.in-Refused.is ∙ c.requires.judged) in
    IfOk-weaker c.only.result _ _ (λ v h. h ∙ ap (λ (r : Reply). (c.args.session, r) ∷ []) c.refused.ensures ∙ ap (λ (n : ℕ). (c.args.session, says.Refused (Some n) c.in-Refused.refusal) ∷ []) c.id-id.ensures ∙ sym (ap (said_to_ask c.args.state.now c.args.session c.args.asked.now.id c.args.rows.now c.args.asked.now.ask) why)) c.only.ensures

pub said_to_rows-requires-clause-some : goal.said_to_rows-requires-clause-some
said_to_rows-requires-clause-some c = rows_some c.args.state.now c.args.session c.args.asked.now.id c.args.asked.now.ask c.in-Rows.wanted (sym c.in-Rows.is ∙ c.requires.judged) c.ask-ask.ensures.fits

pub said_to_rows-requires-clause-given : goal.said_to_rows-requires-clause-given
said_to_rows-requires-clause-given c = rows_given c.args.state.now c.args.session c.args.asked.now.id c.args.asked.now.ask c.args.rows.now c.in-Rows.wanted (sym c.in-Rows.is ∙ c.requires.judged) c.requires.choice

pub returns-in-Rows : goal.returns-in-Rows
returns-in-Rows c =
    IfOk-weaker c.said_to_rows.result _ _ (λ v h. h ∙ rows_said c.args.state.now c.args.session c.args.asked.now.id c.args.asked.now.ask c.args.rows.now c.in-Rows.wanted (sym c.in-Rows.is ∙ c.requires.judged)) c.said_to_rows.ensures

pub said_when_accepted-requires-clause-accepted : goal.said_when_accepted-requires-clause-accepted
said_when_accepted-requires-clause-accepted c = rw c.ask-ask.ensures.asked (own_good c.args.state.now c.args.session c.args.asked.now.id c.args.asked.now.ask (is_plain c.args.state.now c.args.session c.args.asked.now.id c.args.asked.now.ask (sym c.in-Plain.is ∙ c.requires.judged)).0)

pub said_when_accepted-requires-clause-plain : goal.said_when_accepted-requires-clause-plain
said_when_accepted-requires-clause-plain c = rw c.ask-ask.ensures.asked (is_plain c.args.state.now c.args.session c.args.asked.now.id c.args.asked.now.ask (sym c.in-Plain.is ∙ c.requires.judged)).1

pub returns-in-Plain : goal.returns-in-Plain
returns-in-Plain c =
    let plain = sym c.in-Plain.is ∙ c.requires.judged in
    IfOk-weaker c.said_when_accepted.result _ _
    (λ v h. h ∙ plain_said c.args.state.now c.args.session c.args.asked.now.id c.args.asked.now.ask c.args.rows.now c.id-id.result c.ask-ask.result.now c.id-id.ensures c.ask-ask.ensures.asked plain (plain_given c.args.state.now c.args.session c.args.asked.now.id c.args.asked.now.ask c.args.rows.now plain c.requires.choice))
    c.said_when_accepted.ensures
