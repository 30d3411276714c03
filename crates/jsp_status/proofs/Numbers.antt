-- The JSON of a status has whole numbers only, so that it has one text, and is so flat that it is read again.
use Rattle.std.proofs.Common.{◌≡◌, ◌≤◌, ℕ, Option, Some, None, List, [], ◌∷◌, map, false, refl, arith}
use Rattle.serde_json.specs.Data.{depth, items_depth}
use Rattle.serde_json.specs.Read.{max_depth}
use Rattle.serde_json.specs.View.{items_of}
use Rattle.serde_json.specs.Written.{has_float, items_have_float}
use Rattle.jsp_status.specs.declared.status.ConnectionStatus.{ConnectionStatus}
use Rattle.jsp_status.specs.declared.status.RefusalCount.{RefusalCount}
use Rattle.jsp_status.specs.declared.status.SpaceStatus.{SpaceStatus}
use Rattle.jsp_status.specs.declared.status.Status.{Status}
use Rattle.jsp_status.specs.Data.{connection_data, known_data, refusal_data, space_data, status_data}

refusals_have_no_float : (rs : List RefusalCount) → items_have_float (items_of (map refusal_data rs)) ≡ false
refusals_have_no_float [] = refl
refusals_have_no_float (r ∷ rs) = refusals_have_no_float rs

spaces_have_no_float : (ss : List SpaceStatus) → items_have_float (items_of (map space_data ss)) ≡ false
spaces_have_no_float [] = refl
spaces_have_no_float (s ∷ ss) = spaces_have_no_float ss

connections_have_no_float : (cs : List ConnectionStatus) → items_have_float (items_of (map connection_data cs)) ≡ false
connections_have_no_float [] = refl
connections_have_no_float (c ∷ cs) = connections_have_no_float cs

known_has_no_float : (n : Option ℕ) → has_float (known_data n) ≡ false
known_has_no_float (Some n) = refl
known_has_no_float None = refl

pub status_has_no_float : (s : Status) → has_float (status_data s) ≡ false
status_has_no_float s =
    rw (known_has_no_float s.memory, connections_have_no_float s.connection_list.items, refusals_have_no_float s.refusals.items, spaces_have_no_float s.spaces.items) refl

refusals_are_flat : (rs : List RefusalCount) → items_depth (items_of (map refusal_data rs)) ≤ 1
refusals_are_flat [] = omega arith
refusals_are_flat (r ∷ rs) = omega (arith, refusals_are_flat rs)

spaces_are_flat : (ss : List SpaceStatus) → items_depth (items_of (map space_data ss)) ≤ 1
spaces_are_flat [] = omega arith
spaces_are_flat (s ∷ ss) = omega (arith, spaces_are_flat ss)

connections_are_flat : (cs : List ConnectionStatus) → items_depth (items_of (map connection_data cs)) ≤ 1
connections_are_flat [] = omega arith
connections_are_flat (c ∷ cs) = omega (arith, connections_are_flat cs)

known_is_flat : (n : Option ℕ) → depth (known_data n) ≡ 0
known_is_flat (Some n) = refl
known_is_flat None = refl

pub status_is_flat : (s : Status) → depth (status_data s) ≤ max_depth
status_is_flat s = omega (arith, known_is_flat s.memory, connections_are_flat s.connection_list.items, refusals_are_flat s.refusals.items, spaces_are_flat s.spaces.items)
