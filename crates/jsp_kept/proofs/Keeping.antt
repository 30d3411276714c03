-- What keeps a history whole.
use Rattle.std.proofs.Common.{◌≡◌, ℕ, ◌+◌, ◌-◌, ◌<◌, ◌≤◌, List, ◌++◌, append_assoc, length, get_or, sum, cond, Option, Some, sym, ◌∙◌, ap, subst, arith}
use Rattle.std.specs.Prelude.{◌==◌}
use Rattle.std.proofs.lemmas.List.{get_or-set_same, get_or-set_other, length-set}
use Rattle.std.proofs.lemmas.List.Sums.{sum_by-set}
use Rattle.std.proofs.lemmas.Bool.Decides.{nat_tests}
use Rattle.jsp_model.specs.declared.state.State.{State}
use Rattle.jsp_model.specs.declared.step.Step.{Step}
use Rattle.jsp_model.specs.Lookup.{empty}
use Rattle.jsp_model.specs.Runs.{IsRun, state_after}
use Rattle.jsp_model.specs.House.{own_of, Makes, KeepsRoom, KeepsBound, IsWithin}
use Rattle.jsp_model.proofs.Joining.{IsRun-append, state_after-append}
use Rattle.jsp_quiet.specs.Steady.{IsSteady}
use Rattle.jsp_quiet.proofs.Steady.{steady_run}
use Rattle.jsp_kept.specs.Counts.{asks_of, outs_of, shuts_of}
use Rattle.jsp_kept.specs.History.{History, IsKept, Beside, IsWhole, limit_of}
use Rattle.jsp_kept.specs.Calls.{KeepsEra, KeepsAsks, KeepsOuts, raised}
use Rattle.jsp_kept.proofs.LastSession.{last_by, last_run}
use Rattle.jsp_kept.proofs.Weights.{asks_own, outs_own, shuts_own, asks_append, outs_append, shuts_append}
use Rattle.jsp_kept.proofs.Owns.{IsUncounted, CountsAsk, CountsOut}

-- the counts go up by what the own steps count
pub record CountsUp (h k : History) (own : List Step) : Type 0 where
  pub asked : (i : ℕ) → get_or k.asked i 0 ≡ get_or h.asked i 0 + asks_of (i + 1) own
  pub taken : (i : ℕ) → get_or k.taken i 0 ≡ get_or h.taken i 0 + outs_of (i + 1) own
  pub asks_book : k.asks_book ≡ sum k.asked
  pub outs_book : k.outs_book ≡ sum k.taken
  pub askers : length k.asked ≡ last_by h.state.last_session own
  pub takers : length k.taken ≡ last_by h.state.last_session own

pub last_on : (h k : History) (steps : List Step) → Makes h.state k.state h.steps k.steps steps → k.state.last_session ≡ last_by h.state.last_session (own_of steps)
last_on h k steps makes = ap (λ (w : State). w.last_session) (sym makes.view) ∙ last_run h.state steps

pub kept_on : (h k : History) (steps : List Step) → IsKept h → KeepsEra h k → Makes h.state k.state h.steps k.steps steps → CountsUp h k (own_of steps) → length k.steps ≤ limit_of k → IsKept k
kept_on h k steps was era makes grows within =
    let last = last_on h k steps makes in
    let joined : (was.earlier ++ h.steps) ++ steps ≡ was.earlier ++ (h.steps ++ steps) = append_assoc was.earlier h.steps steps in
    record {
      earlier = was.earlier;
      first = λ u. was.first (sym era.is_sealed ∙ u);
      run = rw (makes.log, era.spaces) (subst (IsRun (empty h.spaces)) joined (IsRun-append (empty h.spaces) (was.earlier ++ h.steps) steps was.run (subst (λ (w : State). IsRun w steps) was.state makes.run)));
      steady = subst IsSteady makes.view (steady_run h.state steps makes.run was.steady);
      state = rw (makes.log, era.spaces) (sym makes.view ∙ (ap (λ w. state_after w steps) was.state ∙ (sym (state_after-append (empty h.spaces) (was.earlier ++ h.steps) steps) ∙ ap (state_after (empty h.spaces)) joined)));
      asked = λ i. rw makes.log (omega (arith, grows.asked i, was.asked i, asks_append (i + 1) (was.earlier ++ h.steps) steps, asks_own (i + 1) steps, ap (asks_of (i + 1)) joined));
      taken = λ i. rw makes.log (omega (arith, grows.taken i, was.taken i, outs_append (i + 1) (was.earlier ++ h.steps) steps, outs_own (i + 1) steps, ap (outs_of (i + 1)) joined));
      asks_book = grows.asks_book;
      outs_book = grows.outs_book;
      askers = grows.askers ∙ sym last;
      takers = grows.takers ∙ sym last;
      within = within;
    }

-- ---- counts

pub grows_quietly : (h k : History) (own : List Step) → IsKept h → IsUncounted own → KeepsAsks h k → KeepsOuts h k → CountsUp h k own
grows_quietly h k own was none asks outs = record {
  asked = λ i. rw asks.asked (omega (arith, none.asks (i + 1)));
  taken = λ i. rw outs.taken (omega (arith, none.outs (i + 1)));
  asks_book = asks.book ∙ (was.asks_book ∙ ap sum (sym asks.asked));
  outs_book = outs.book ∙ (was.outs_book ∙ ap sum (sym outs.taken));
  askers = ap length asks.asked ∙ (was.askers ∙ sym (none.last h.state.last_session));
  takers = ap length outs.taken ∙ (was.takers ∙ sym (none.last h.state.last_session));
}

raised_get : (xs : List ℕ) (s by i : ℕ) → 0 < s → s - 1 < length xs → get_or (raised xs (s - 1) by) i 0 ≡ get_or xs i 0 + cond (s == (i + 1)) by 0
raised_get xs s by i p q = grind (arith, nat_tests, get_or-set_same {A = ℕ}, get_or-set_other {A = ℕ})

raised_sum : (xs : List ℕ) (i by : ℕ) → i < length xs → sum (raised xs i by) ≡ sum xs + by
raised_sum xs i by q = omega (arith, sum_by-set (λ n. n) xs i (get_or xs i 0 + by) 0 q)

raised_length : (xs : List ℕ) (i by : ℕ) → length (raised xs i by) ≡ length xs
raised_length xs i by = length-set xs i (get_or xs i 0 + by)

pub grows_by_ask : (h k : History) (own : List Step) (s by : ℕ) → IsKept h → CountsAsk own s by → 0 < s → s - 1 < length h.asked
    → k.asked ≡ raised h.asked (s - 1) by → k.asks_book ≡ h.asks_book + by → KeepsOuts h k → CountsUp h k own
grows_by_ask h k own s by was one above within asked book outs = record {
  asked = λ i. rw asked (raised_get h.asked s by i above within ∙ ap (λ n. get_or h.asked i 0 + n) (sym (one.asks (i + 1))));
  taken = λ i. rw outs.taken (omega (arith, one.outs (i + 1)));
  asks_book = rw (asked, book) (omega (arith, raised_sum h.asked (s - 1) by within, was.asks_book));
  outs_book = outs.book ∙ (was.outs_book ∙ ap sum (sym outs.taken));
  askers = ap length asked ∙ (raised_length h.asked (s - 1) by ∙ (was.askers ∙ sym (one.last h.state.last_session)));
  takers = ap length outs.taken ∙ (was.takers ∙ sym (one.last h.state.last_session));
}

pub grows_by_out : (h k : History) (own : List Step) (s by : ℕ) → IsKept h → CountsOut own s by → 0 < s → s - 1 < length h.taken
    → k.taken ≡ raised h.taken (s - 1) by → k.outs_book ≡ h.outs_book + by → KeepsAsks h k → CountsUp h k own
grows_by_out h k own s by was one above within taken book asks = record {
  asked = λ i. rw asks.asked (omega (arith, one.asks (i + 1)));
  taken = λ i. rw taken (raised_get h.taken s by i above within ∙ ap (λ n. get_or h.taken i 0 + n) (sym (one.outs (i + 1))));
  asks_book = asks.book ∙ (was.asks_book ∙ ap sum (sym asks.asked));
  outs_book = rw (taken, book) (omega (arith, raised_sum h.taken (s - 1) by within, was.outs_book));
  askers = ap length asks.asked ∙ (was.askers ∙ sym (one.last h.state.last_session));
  takers = ap length taken ∙ (raised_length h.taken (s - 1) by ∙ (was.takers ∙ sym (one.last h.state.last_session)));
}

-- ---- what is kept beside the history

pub record KeepsShares (b c : Beside) : Type 0 where
  pub asks_parts : c.asks_parts ≡ b.asks_parts
  pub asks_amount : c.asks_amount ≡ b.asks_amount
  pub outs_parts : c.outs_parts ≡ b.outs_parts
  pub outs_amount : c.outs_amount ≡ b.outs_amount

within_limit : (bound : Option ℕ) (limit before after : ℕ) → bound ≡ Some limit → (IsWithin bound before → IsWithin bound after) → before ≤ limit → after ≤ limit
within_limit bound limit before after is keeps h = subst (λ (o : Option ℕ). IsWithin o before → IsWithin o after) is keeps h

-- the log stays within the limit, where no session is shut
pub record StaysWithin (h k : History) (b c : Beside) : Type 0 where
  pub within : length k.steps ≤ limit_of k
  pub limit : c.limit ≡ limit_of k
  pub bound : c.bound ≡ Some c.limit
  pub some : 1 ≤ k.era
  pub era : k.era ≤ 16777216
  pub room : length k.state.sessions ≤ c.spare

pub stays_within : (h k : History) (b c : Beside) (steps : List Step) (before after : ℕ)
    → IsWhole h b → KeepsEra h k → Makes h.state k.state h.steps k.steps steps → shuts_of (own_of steps) ≡ 0
    → KeepsRoom h.state k.state b.spare c.spare → KeepsBound b.bound c.bound before after
    → before ≡ length h.steps → after ≡ length k.steps → c.limit ≡ b.limit → StaysWithin h k b c
stays_within h k b c steps before after was era makes none room bound is_before is_after same =
    let limit : limit_of k ≡ limit_of h = rw (makes.log, era.era) (omega (arith, shuts_append h.steps steps, shuts_own steps, none)) in
    let fits : before ≤ b.limit = omega (arith, is_before, was.kept.within, was.limit) in
    let now : after ≤ b.limit = within_limit b.bound b.limit before after was.bound bound.within fits in
    record {
      within = omega (arith, now, is_after, was.limit, limit);
      limit = same ∙ (was.limit ∙ sym limit);
      bound = bound.same ∙ (was.bound ∙ ap (λ n. Some n) (sym same));
      some = rw era.era was.some;
      era = rw era.era was.era;
      room = room was.room;
    }

-- no session is opened
pub whole_on : (h k : History) (b c : Beside) (steps : List Step) → IsWhole h b → KeepsEra h k → Makes h.state k.state h.steps k.steps steps → CountsUp h k (own_of steps)
    → last_by h.state.last_session (own_of steps) ≡ h.state.last_session → StaysWithin h k b c → KeepsShares b c
    → c.asks_sum ≡ k.asks_book → c.outs_sum ≡ k.outs_book → IsWhole k c
whole_on h k b c steps was era makes grows same within shares asks_sum outs_sum =
    let last = last_on h k steps makes ∙ same in
    record {
      kept = kept_on h k steps was.kept era makes grows within.within;
      asks_sum = asks_sum;
      outs_sum = outs_sum;
      asks_parts = rw (shares.asks_parts, last) was.asks_parts;
      asks_amount = shares.asks_amount ∙ was.asks_amount;
      outs_parts = rw (shares.outs_parts, last) was.outs_parts;
      outs_amount = shares.outs_amount ∙ was.outs_amount;
      some = within.some;
      era = within.era;
      limit = within.limit;
      bound = within.bound;
      room = within.room;
    }
