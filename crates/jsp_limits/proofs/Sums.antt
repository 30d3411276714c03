-- In a state within its limits the program's sums fit 64 bits.
use Rattle.std.proofs.Common.{◌+◌, ◌-◌, ◌^◌, nat_lt, nat_le, length, arith}
use Rattle.std.specs.Prelude.{filter}
use Rattle.std.proofs.lemmas.Bool.{lt-ltb, ltb-true, leb-true}
use Rattle.jsp_model.specs.declared.state.State.{State}
use Rattle.jsp_model.specs.declared.state.Space.{Space}
use Rattle.jsp_model.specs.declared.state.Registration.{Registration}
use Rattle.jsp_model.specs.Limits.{is_hidden_from, is_sequence, IsWithinLimits}
use Rattle.jsp_limits.specs.Sums.{SumsFit}
use Rattle.jsp_limits.proofs.Lists.{all_weaker}
use Rattle.jsp_limits.proofs.Goes.{granted_most}

pub sums_fit : (st : State) → IsWithinLimits st → SumsFit st
sums_fit st h =
    let time = h.time in
    let next = h.next_number in
    record {
      numbers = λ count few. omega (arith, next, few);
      lease_ends = λ lease. omega (arith, time, granted_most lease);
      waiting_ends = λ timeout fits. omega (arith, time, fits);
      crash_counts = all_weaker (λ (p : Space). nat_le p.crash_count (2 ^ 32 - 1)) (λ (p : Space). nat_lt (p.crash_count + 1) (2 ^ 64))
          (λ p e. lt-ltb (p.crash_count + 1) (2 ^ 64) (omega (arith, leb-true p.crash_count (2 ^ 32 - 1) e))) st.spaces h.spaces.crash_counts;
      sequences = all_weaker (is_sequence st.next_number st.rows) (λ (r : Registration). nat_lt (r.sequence + 1) (2 ^ 64))
          (λ r e. lt-ltb (r.sequence + 1) (2 ^ 64) (omega (arith, next, ltb-true (r.sequence + length r.owed + length (filter (is_hidden_from r.transaction) st.rows)) st.next_number e))) st.registrations h.sequences;
      waiting = λ s. omega (arith, h.waiting s);
      rows = λ space count few. omega (arith, few, h.rows.in_space space);
    }
