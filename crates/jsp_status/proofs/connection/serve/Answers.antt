use Rattle.std.proofs.Common.{◌∙◌}
use Rattle.http_server.specs.Connection.{history}
use Rattle.jsp_status.proofs.Calls.{answers_new, OnOk-and}
use Rattle.jsp_status.proofs.connection.serve.Goals as goal

pub returns-in-Aborted : goal.returns-in-Aborted
returns-in-Aborted g c = (
  history c.serve-done.new.connection,
  answers_new _ c.new-connection.result c.serve-done.new.connection (record { alloc = c.args.alloc; status = c.args.status })
      c.serve-done.new.service _ _ _ _ c.new-connection.ensures.history c.new-connection.ensures.config c.serve-done.ensures.config
      c.serve-done.ensures.read c.serve-done.ensures.written c.serve-done.ensures.calls,
  tt,
)

pub returns : goal.returns
returns g c = (
  history c.serve-done.new.connection,
  answers_new _ c.new-connection.result c.serve-done.new.connection (record { alloc = c.args.alloc; status = c.args.status })
      c.serve-done.new.service _ _ _ _ c.new-connection.ensures.history c.new-connection.ensures.config c.serve-done.ensures.config
      c.serve-done.ensures.read c.serve-done.ensures.written c.serve-done.ensures.calls,
  OnOk-and _ _ _ c.serve-done.ensures.done (λ e. c.in_default.not-Aborted (c.state.ensures ∙ e)),
)
