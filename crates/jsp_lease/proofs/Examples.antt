-- Worked examples.
use Rattle.std.specs.Prelude.{◌≡◌, refl, ℕ, ◌+◌, pos, negsuc, [], ◌∷◌, Some, None}
use Rattle.jsp_lease.specs.declared.item.Item.{Item}
use Rattle.jsp_lease.specs.declared.item.Rank.{Rank}
use Rattle.jsp_lease.specs.declared.item.Rank.TheVariants as rank
use Rattle.jsp_lease.specs.Due.{first_item, over_by}
use Rattle.jsp_lease.specs.Granted.{granted, ms_of}
use Rattle.jsp_lease.specs.Leases.{ending_at, without}

abbrev ends : ℕ → Rank → ℕ → Item
ends end rank number = record { end = end; rank = rank; number = number }

pub one_end_rank_first : first_item (ends 50 rank.MatchSet 1 ∷ ends 50 rank.Blocked 2 ∷ ends 50 rank.Transaction 3 ∷ ends 50 rank.Registration 4 ∷ ends 50 rank.Entry 5 ∷ []) ≡ Some (ends 50 rank.Entry 5)
one_end_rank_first = refl

pub one_end_and_rank_number_first : first_item (ends 50 rank.Entry 6 ∷ ends 50 rank.Entry 4 ∷ ends 50 rank.Entry 5 ∷ []) ≡ Some (ends 50 rank.Entry 4)
one_end_and_rank_number_first = refl

pub the_end_before_all : first_item (ends 50 rank.Entry 1 ∷ ends 49 rank.MatchSet 7 ∷ []) ≡ Some (ends 49 rank.MatchSet 7)
the_end_before_all = refl

pub due_at_its_end : over_by 50 (ends 50 rank.Entry 1 ∷ ends 51 rank.Entry 2 ∷ []) ≡ ends 50 rank.Entry 1 ∷ []
due_at_its_end = refl

pub nothing_due_before : first_item (over_by 49 (ends 50 rank.Entry 1 ∷ ends 51 rank.Entry 2 ∷ [])) ≡ None
nothing_due_before = refl

pub an_hour_at_most : granted (pos 3600001) ≡ Some 3600000
an_hour_at_most = refl

pub as_asked : granted (pos 3599999) ≡ Some 3599999
as_asked = refl

pub any_is_a_minute : ms_of (negsuc 0) ≡ 60000
any_is_a_minute = refl

pub nothing_for_minus_two : granted (negsuc 1) ≡ None
nothing_for_minus_two = refl

pub lease_of_nothing_due_at_once : first_item (over_by 42 (ends (42 + ms_of (pos 0)) rank.Entry 1 ∷ [])) ≡ Some (ends 42 rank.Entry 1)
lease_of_nothing_due_at_once = refl

-- at 2000, where it would have ended at 10000
pub renewed_from_now : ending_at 1 (2000 + ms_of (pos 300)) (ends 10000 rank.Entry 1 ∷ ends 9000 rank.Entry 2 ∷ []) ≡ ends 2300 rank.Entry 1 ∷ ends 9000 rank.Entry 2 ∷ []
renewed_from_now = refl

pub cancelled_is_not_due : first_item (over_by 99 (without 1 (ends 10 rank.Entry 1 ∷ ends 20 rank.Entry 2 ∷ []))) ≡ Some (ends 20 rank.Entry 2)
cancelled_is_not_due = refl
