use Rattle.jsp_script.proofs.Auditing.{same_bytes}
use Rattle.jsp_script.proofs.audit.audit.Goals as goal

pub returns-then-eq-clause-history : goal.returns-then-eq-clause-history
returns-then-eq-clause-history c = record {
  run = c.in_ok-said.ensures.run;
  bytes = (same_bytes c.in_ok-sent.sent c.in_ok-said.said _ _ c.eq.result c.eq.ensures c.in_ok-sent.ensures c.in_ok-said.ensures.frames).0 c.if-eq.true;
}

pub returns-clause-fault : goal.returns-clause-fault
returns-clause-fault c h =
    let equal = (same_bytes c.in_ok-sent.sent c.in_ok-said.said _ _ c.eq.result c.eq.ensures c.in_ok-sent.ensures c.in_ok-said.ensures.frames).1 h.bytes in
    cc (equal, c.if-eq.false)
