use Rattle.std.proofs.Common.{◌≡◌, drop}
use Rattle.serde_json.specs.Data.{no_members}
use Rattle.jsp_reply.specs.Text.{with_fields}
use Rattle.jsp_reply.specs.Ordered.{members_of}
use Rattle.jsp_reply.proofs.Ordered.{fields_of}
use Rattle.jsp_reply.proofs.members.in_order.Given as goal

-- the fields still to come, put among those that are in, give all
abbrev pub invariant-loop-name : goal.invariant-loop-name
invariant-loop-name l = with_fields (drop l.name-index l.fields) (members_of (fields_of l.members.entries)) ≡ with_fields l.fields no_members
