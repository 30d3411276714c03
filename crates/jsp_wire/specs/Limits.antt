-- The limits that each request keeps.
use Rattle.std.specs.Prelude.{ℕ, ◌^◌, Bool, true, ◌&&◌, nat_lt, nat_le, length, if◌then◌else◌, Option, Some, None}
use Rattle.jsp_wire.specs.declared.ask.Ask.{Ask}
use Rattle.jsp_wire.specs.declared.ask.Ask.TheVariants as ask
use Rattle.jsp_wire.specs.declared.ask.Request.{Request}

abbrev pub is_between : ℕ → ℕ → ℕ → Bool
is_between low high n = nat_le low n && nat_le n high

-- the limits of texts and lists
abbrev pub has_fitting_parts : Ask → Bool
has_fitting_parts (ask.Notify q) = nat_le (length q.handback) 256
has_fitting_parts (ask.RenewAll leases) = is_between 1 64 (length leases)
has_fitting_parts (ask.CancelAll leases) = is_between 1 64 (length leases)
has_fitting_parts (ask.WriteAll w) = is_between 1 64 (length w.entries)
has_fitting_parts (ask.TakeMany q) = is_between 1 8 (length q.templates) && is_between 1 16 q.most
has_fitting_parts (ask.Next set most) = is_between 1 16 most
has_fitting_parts _ = true

abbrev pub is_within_limits : Request → Bool
is_within_limits r = nat_lt r.id (2 ^ 63) && has_fitting_parts r.ask

-- the request, where it keeps the limits
abbrev pub within_limits : Request → Option Request
within_limits r = if is_within_limits r then Some r else None
