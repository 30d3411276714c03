use Rattle.std.proofs.Common.{◌∙◌, ap, sym}
use Rattle.std.proofs.lemmas.Result.{on_ok_weaker}
use Rattle.jsp_model.specs.Steps.{after_ask}
use Rattle.jsp_requests.proofs.Asking.{own_good}
use Rattle.jsp_machine.proofs.JudgedRequests.{is_refused, is_plain, rows_given, rows_some, rows_one, rows_changed, plain_given, plain_changed}
use Rattle.jsp_machine.proofs.step_change.ask.Goals as goal

pub returns-in-Refused-clause-ok : goal.returns-in-Refused-clause-ok
returns-in-Refused-clause-ok c =
    sym (ap (after_ask c.args.state.now c.args.session c.args.asked.now.id c.args.rows.now c.args.asked.now.ask) (is_refused c.args.state.now c.args.session c.args.asked.now.id c.args.asked.now.ask c.in-Refused.field-0 (sym c.in-Refused.is ∙ c.requires.judged)))

pub accept_rows-requires-clause-some : goal.accept_rows-requires-clause-some
accept_rows-requires-clause-some c = rows_some c.args.state.now c.args.session c.args.asked.now.id c.args.asked.now.ask c.in-Rows.wanted (sym c.in-Rows.is ∙ c.requires.judged) c.ask-ask.ensures.fits

pub accept_rows-requires-clause-given : goal.accept_rows-requires-clause-given
accept_rows-requires-clause-given c = rows_given c.args.state.now c.args.session c.args.asked.now.id c.args.asked.now.ask c.args.rows.now c.in-Rows.wanted (sym c.in-Rows.is ∙ c.requires.judged) c.requires.choice

pub accept_rows-requires-clause-one : goal.accept_rows-requires-clause-one
accept_rows-requires-clause-one c =
    let judged = sym c.in-Rows.is ∙ c.requires.judged in
    rows_one c.args.state.now c.args.session c.args.asked.now.id c.args.asked.now.ask c.args.rows.now c.in-Rows.wanted judged c.ask-ask.ensures.fits (rows_given c.args.state.now c.args.session c.args.asked.now.id c.args.asked.now.ask c.args.rows.now c.in-Rows.wanted judged c.requires.choice)

pub returns-in-Rows-clause-ok : goal.returns-in-Rows-clause-ok
returns-in-Rows-clause-ok c =
    on_ok_weaker c.accept_rows.result (λ e. e ∙ rows_changed c.args.state.now c.args.session c.args.asked.now.id c.args.asked.now.ask c.args.rows.now c.in-Rows.wanted (sym c.in-Rows.is ∙ c.requires.judged)) c.accept_rows.ensures.ok

pub accept-requires-clause-accepted : goal.accept-requires-clause-accepted
accept-requires-clause-accepted c = rw c.ask-ask.ensures.asked (own_good c.args.state.now c.args.session c.args.asked.now.id c.args.asked.now.ask (is_plain c.args.state.now c.args.session c.args.asked.now.id c.args.asked.now.ask (sym c.in-Plain.is ∙ c.requires.judged)).0)

pub accept-requires-clause-plain : goal.accept-requires-clause-plain
accept-requires-clause-plain c = rw c.ask-ask.ensures.asked (is_plain c.args.state.now c.args.session c.args.asked.now.id c.args.asked.now.ask (sym c.in-Plain.is ∙ c.requires.judged)).1

pub returns-in-Plain-clause-ok : goal.returns-in-Plain-clause-ok
returns-in-Plain-clause-ok c =
    let plain = sym c.in-Plain.is ∙ c.requires.judged in
    on_ok_weaker c.accept.result (λ e. e ∙ plain_changed c.args.state.now c.args.session c.args.asked.now.id c.args.asked.now.ask c.args.rows.now c.id-id.result c.ask-ask.result.now c.id-id.ensures c.ask-ask.ensures.asked plain (plain_given c.args.state.now c.args.session c.args.asked.now.id c.args.asked.now.ask c.args.rows.now plain c.requires.choice)) c.accept.ensures.ok
