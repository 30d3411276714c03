-- The sequence numbers of events, which never come near 64 bits.
use Rattle.std.proofs.Common.{◌≡◌, ℕ, ◌+◌, ◌<◌, ◌^◌, true, nat_le, length, Option, None, Some, option_map, refl, ap, sym, subst, arith}
use Rattle.std.specs.Option.{option_map_or}
use Rattle.jsp_model.specs.Answers.{event_of}
use Rattle.jsp_notify.specs.News.{without_owed}
use Rattle.std.specs.Prelude.{filter, IsTrue, ◌==◌}
use Rattle.std.specs.List.{list_all}
use Rattle.std.proofs.lemmas.Bool.{ltb-true, le-leb}
use Rattle.jsp_model.specs.declared.state.State.{State}
use Rattle.jsp_model.specs.declared.state.Registration.{Registration}
use Rattle.jsp_model.specs.Lookup.{registration_of}
use Rattle.jsp_model.specs.Limits.{is_hidden_from, is_sequence, IsWithinLimits}
use Rattle.jsp_limits.proofs.Lists.{all_weaker, found_all}

below : (st : State) (r : Registration) → IsWithinLimits st → is_sequence st.next_number st.rows r ≡ true → r.sequence < 2 ^ 63
below st r h e =
    let next = h.next_number in
    let lt = ltb-true (r.sequence + length r.owed + length (filter (is_hidden_from r.transaction) st.rows)) st.next_number e in
    omega (arith, next, lt)

-- of the registration of a number
pub sequence_fits : (st : State) (n : ℕ) (r : Registration) → IsWithinLimits st → registration_of st n ≡ Some r → r.sequence < 2 ^ 63
sequence_fits st n r h is = below st r h (found_all (is_sequence st.next_number st.rows) (λ r. r.number == n) st.registrations r h.sequences is).0

-- of each registration
pub sequences_fit : (st : State) → IsWithinLimits st → IsTrue (list_all (λ (r : Registration). nat_le (r.sequence + 1) (2 ^ 63)) st.registrations)
sequences_fit st h =
    all_weaker (is_sequence st.next_number st.rows) (λ (r : Registration). nat_le (r.sequence + 1) (2 ^ 63))
    (λ r e. let lt = below st r h e in le-leb (r.sequence + 1) (2 ^ 63) (omega (arith, lt)))
    st.registrations h.sequences

-- of what is the registration of a number but for what it is owed
pub sequence_fits_too : (st : State) (n : ℕ) (r : Registration) → IsWithinLimits st → option_map without_owed (Some r) ≡ option_map without_owed (registration_of st n) → r.sequence < 2 ^ 63
sequence_fits_too st n r h is =
    let sequence : Option Registration → ℕ = λ o. option_map_or (λ (q : Registration). q.sequence) o 0 in
    let Goal : Option Registration → Type 0 = λ o. registration_of st n ≡ o → option_map without_owed (Some r) ≡ option_map without_owed o → r.sequence < 2 ^ 63 in
    let by_cases : (o : Option Registration) → Goal o = λ o. elim o as Goal [
      | None ↦ λ found e. absurd (cc e)
      | Some q ↦ λ found e. subst (λ (m : ℕ). m < 2 ^ 63) (sym (ap sequence e)) (sequence_fits st n q h found)
    ] in
    by_cases (registration_of st n) refl is

-- an event doesn't say what the registration is owed
pub same_event : (o : Option Registration) → event_of (option_map without_owed o) ≡ event_of o
same_event o = elim o as (λ o. event_of (option_map without_owed o) ≡ event_of o) [ None ↦ refl | Some r ↦ refl ]
