use Rattle.std.proofs.Common.{◌≡◌, subst}
use Rattle.std.specs.Prelude.{OnOk}
use Rattle.jsp_model.specs.Requests.{WriteRequest}
use Rattle.jsp_model.specs.Changes.{write}
use Rattle.jsp_entries.proofs.requests.accept_entry.Goals as goal

pub returns-clause-ok : goal.returns-clause-ok
returns-clause-ok c = subst (λ (w : WriteRequest). OnOk c.accept_write.result (c.accept_write.new.state ≡ write c.args.state.now w)) c.one_entry-asked.ensures c.accept_write.ensures.ok
