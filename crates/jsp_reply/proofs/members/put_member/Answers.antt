use Rattle.std.proofs.Common.{ap, ◌∙◌}
use Rattle.jsp_reply.specs.Ordered.{members_of}
use Rattle.jsp_reply.proofs.Ordered.{fields_of, members_of-insert_entry}
use Rattle.jsp_reply.proofs.members.put_member.Goals as goal

pub returns : goal.returns
returns c =
    ap (λ ms. members_of (fields_of ms)) c.in_ok-insert.ensures.entries
    ∙ members_of-insert_entry c.args.members.now.entries c.args.name c.args.value
