-- What a lease is granted.
use Rattle.std.specs.Prelude.{ℕ, zero, suc, ℤ, pos, negsuc, min, Option, Some, None, unwrap_or}
use Rattle.jsp_lease.specs.declared.granting.TheConstants.{ANY_LEASE, LONGEST_LEASE}

-- what a lease of the asked time is granted
abbrev pub granted : ℤ → Option ℕ
granted (pos ms) = Some (min ms LONGEST_LEASE)
granted (negsuc zero) = Some ANY_LEASE
granted (negsuc (suc n)) = None

abbrev pub ms_of : ℤ → ℕ
ms_of lease = unwrap_or (granted lease) 0
