use Rattle.std.proofs.lemmas.Result.{IfOk-weaker}
use Rattle.jsp_reply.proofs.Lengths.{written_short}
use Rattle.jsp_reply.proofs.reply_text.text.Goals as goal

pub returns-clause-short : goal.returns-clause-short
returns-clause-short c =
    IfOk-weaker c.reply_text.result _ _
    (λ v. written_short v.items c.reply.result.now c.args.said.now c.reply.ensures.limits c.reply.ensures.said)
    c.reply_text.ensures
