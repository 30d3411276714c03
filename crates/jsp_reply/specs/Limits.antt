-- The limits that each answer and event keeps.
use Rattle.std.specs.Prelude.{Bool, true, ◌&&◌, nat_le, length}
use Rattle.std.specs.List.{list_all}
use Rattle.jsp_types.specs.Matching.{is_small}
use Rattle.jsp_reply.specs.declared.reply.Reply.{Reply}
use Rattle.jsp_reply.specs.declared.reply.Reply.TheVariants as reply

abbrev pub is_within_limits : Reply → Bool
is_within_limits (reply.Shown id entry) = is_small entry
is_within_limits (reply.Names id names) = nat_le (length names) 64 && list_all (λ n. nat_le (length n) 64) names
is_within_limits (reply.Leases id items) = nat_le (length items) 64
is_within_limits (reply.Told handback lease sequence) = nat_le (length handback) 256
is_within_limits (reply.Batch id leases ms) = nat_le (length leases) 64
is_within_limits (reply.Many id entries) = nat_le (length entries) 16 && list_all is_small entries
is_within_limits (reply.Page id end entries) = nat_le (length entries) 16 && list_all is_small entries
is_within_limits _ = true
