use Rattle.jsp_entries.specs.Asking.{write_of}
use Rattle.jsp_entries.proofs.Writing.{written}
use Rattle.jsp_entries.proofs.write.accept_write.Goals as goal

pub returns-in-Ok-clause-ok : goal.returns-in-Ok-clause-ok
returns-in-Ok-clause-ok c =
    written c.args.state.now (write_of c.args.asked.now) c.caller_of-caller.result c.place_of.result c.in_ok-rows.rows.items c.join.new.state _ c.caller_of-caller.ensures c.place_of.ensures c.in_ok-rows.ensures c.in_ok-joining.ensures.ok.0 c.in-Ok.ensures.ok
