-- What the limits of a state give to the choice of a step: its lists rise, its requests ask for a row, and a place that
-- is no space's is quiet.
use Rattle.std.proofs.Common.{◌≡◌, refl, ℕ, ◌<◌, ◌≤◌, List, [], ◌∷◌, length, Bool, true, false, not, ◌&&◌, ◌||◌, inl, inr, ◌==◌, nat_lt, arith}
use Rattle.std.specs.List.{list_all}
use Rattle.std.proofs.lemmas.Bool.{and_parts, and_from, leb-true, ltb-true, ltb-false, eq-eqb, ne_eqb, or_right}
use Rattle.jsp_model.specs.declared.state.State.{State}
use Rattle.jsp_model.specs.declared.state.Row.{Row}
use Rattle.jsp_model.specs.declared.state.Registration.{Registration}
use Rattle.jsp_model.specs.declared.state.Blocked.{Blocked}
use Rattle.jsp_model.specs.declared.state.Transaction.{Transaction}
use Rattle.jsp_model.specs.declared.state.MatchSet.{MatchSet}
use Rattle.jsp_model.specs.Lookup.{contains}
use Rattle.jsp_model.specs.Limits.{IsWithinLimits, is_blocked, is_registration}
use Rattle.jsp_model.specs.Quiet.{must_wait, is_quiet, are_quiet}
use Rattle.jsp_laws.proofs.Lists.{Has, each_weaker, each_by_all, each_has, each_numbers}
use Rattle.jsp_laws.proofs.Rising.{IsRising}
use Rattle.jsp_quiet.specs.Quieting.{AllAskForSome}
use Rattle.jsp_quiet.proofs.Lists.{all_has}
use Rattle.jsp_house.proofs.LeastRows.{all_rising}

-- ---- what the limits give

pub limits_rising : (st : State) → IsWithinLimits st → IsRising st
limits_rising st h = record {
  rows = all_rising (λ (r : Row). r.number) 0 st.next_number st.rows h.rows.rising;
  registrations = all_rising (λ (r : Registration). r.number) 0 st.next_number st.registrations h.registrations.rising;
  blocked = all_rising (λ (b : Blocked). b.number) 0 st.next_number st.blocked h.blocked.rising;
  transactions = all_rising (λ (t : Transaction). t.number) 0 st.next_number st.transactions h.transactions.rising;
  sets = all_rising (λ (m : MatchSet). m.number) 0 st.next_number st.sets h.sets.rising;
}

asks_for_one : (spaces : ℕ) (b : Blocked) → is_blocked spaces b ≡ true → 1 ≤ b.most
asks_for_one spaces b h = leb-true 1 b.most (and_parts _ _ (and_parts _ _ (and_parts _ _ h).0).0).1

pub limits_some : (st : State) → IsWithinLimits st → AllAskForSome st
limits_some st h = each_weaker (λ (b : Blocked). is_blocked (length st.spaces) b ≡ true) (λ (b : Blocked). 1 ≤ b.most) (asks_for_one (length st.spaces)) st.blocked (each_by_all (is_blocked (length st.spaces)) st.blocked h.blocked.each)

first_of_eight : (a b c d e f g h : Bool) → (a && b && c && d && e && f && g && h) ≡ true → a ≡ true
first_of_eight true b c d e f g h k = refl
first_of_eight false b c d e f g h k = absurd (cc)

first_of_four : (a b c d : Bool) → (a && b && c && d) ≡ true → a ≡ true
first_of_four true b c d k = refl
first_of_four false b c d k = absurd (cc)

-- a place above all spaces
pub quiet_beyond : (st : State) (p : ℕ) → IsWithinLimits st → length st.spaces ≤ p → is_quiet st p ≡ true
unfolding is_quiet
quiet_beyond st p h far =
    and_from (list_all (λ b. not (b.space == p) || must_wait st b) st.blocked) (list_all (λ r. not (r.space == p) || length r.owed == 0) st.registrations)
    (all_has (λ b. not (b.space == p) || must_wait st b) st.blocked (λ b k. elsewhere b.space (must_wait st b) (ltb-true b.space (length st.spaces) (first_of_eight _ _ _ _ _ _ _ _ (each_has (λ (b : Blocked). is_blocked (length st.spaces) b ≡ true) st.blocked b (each_by_all (is_blocked (length st.spaces)) st.blocked h.blocked.each) k)))))
    (all_has (λ r. not (r.space == p) || length r.owed == 0) st.registrations (λ r k. elsewhere r.space (length r.owed == 0) (ltb-true r.space (length st.spaces) (first_of_four _ _ _ _ (each_has (λ (r : Registration). is_registration (length st.spaces) r ≡ true) st.registrations r (each_by_all (is_registration (length st.spaces)) st.registrations h.registrations.each) k)))))
  where
    elsewhere : (space : ℕ) (b : Bool) → space < length st.spaces → (not (space == p) || b) ≡ true
    elsewhere space b low = let d : (space == p) ≡ false = ne_eqb space p (λ e. omega (arith, low, far, e)) in rw d refl

-- ---- which space isn't quiet

has_contains : (ns : List ℕ) (n : ℕ) → Has ns n → contains ns n ≡ true
has_contains [] n h = absurd h
has_contains (m ∷ ns) n (inl e) = let w : (m == n) ≡ true = eq-eqb m n e in rw w refl
has_contains (m ∷ ns) n (inr h) = or_right (m == n) (contains ns n) (has_contains ns n h)

-- all of these spaces are quiet, where each place is that is among them
pub all_quiet_of : (st : State) (spaces : List ℕ) → IsWithinLimits st → ((p : ℕ) → p < length st.spaces → contains spaces p ≡ true → is_quiet st p ≡ true) → are_quiet st spaces ≡ true
all_quiet_of st spaces h each = all_has (is_quiet st) spaces (λ p k. at p k (nat_lt p (length st.spaces)) refl)
  where
    at : (p : ℕ) → Has spaces p → (b : Bool) → nat_lt p (length st.spaces) ≡ b → is_quiet st p ≡ true
    at p k true e = each p (ltb-true p (length st.spaces) e) (has_contains spaces p k)
    at p k false e = quiet_beyond st p h (ltb-false p (length st.spaces) e)

-- not all of them are, where one isn't
pub one_unquiet_of : (st : State) (spaces : List ℕ) (p : ℕ) → contains spaces p ≡ true → is_quiet st p ≡ false → are_quiet st spaces ≡ false
one_unquiet_of st spaces p there unquiet = go (are_quiet st spaces) refl
  where
    go : (b : Bool) → are_quiet st spaces ≡ b → b ≡ false
    go false e = refl
    go true e = absurd (cc (each_numbers (is_quiet st) spaces p e there, unquiet))
