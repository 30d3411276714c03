-- Opening and closing sessions.
use Rattle.std.proofs.Common.{◌≡◌, ℕ, ◌+◌, ◌<◌, ◌^◌, true, false, List, [], ◌∷◌, ◌++◌, length, get_or, sum, Some, zero, suc, refl, sym, ◌∙◌, ap, subst, arith, add-zero, Result, Err, length-append}
use Rattle.std.proofs.lemmas.Bool.Decides.{nat_tests}
use Rattle.std.proofs.lemmas.List.Sums.{sum_by-append}
use Rattle.jsp_model.specs.declared.state.State.{State}
use Rattle.jsp_model.specs.declared.step.Step.{Step}
use Rattle.jsp_model.specs.declared.step.Step.TheVariants as step
use Rattle.jsp_model.specs.declared.house.Input.{Input}
use Rattle.jsp_model.specs.declared.house.Input.TheVariants as input
use Rattle.jsp_model.specs.declared.house.Stopped.{Stopped}
use Rattle.jsp_model.specs.Lookup.{is_open}
use Rattle.jsp_model.specs.House.{Leaves, touched, Makes, KeepsRoom, accepts, acted, was_done, own_of, shuts}
use Rattle.jsp_kept.specs.History.{History, IsKept, Beside, IsWhole, limit_of}
use Rattle.jsp_kept.specs.Calls.{KeepsEra, KeepsAsks, KeepsOuts}
use Rattle.jsp_kept.specs.Eras.{GrowsAsAsked}
use Rattle.jsp_kept.proofs.Growing.{performs_in_era}
use Rattle.jsp_kept.proofs.LastSession.{last_by}
use Rattle.jsp_kept.proofs.Weights.{shuts_append}
use Rattle.jsp_kept.proofs.Owns.{IsUncounted, none_counted, undone_own}
use Rattle.jsp_kept.proofs.Keeping.{CountsUp, StaysWithin, KeepsShares, kept_on, last_on, whole_on}

-- ---- an act that isn't made

pub undone_counts : (st : State) (x : Input) (r : Result Unit Stopped) (e : Stopped) → r ≡ Err e → e.done ≡ false → IsUncounted (acted st x r)
undone_counts st x r e is not_done = subst IsUncounted (sym (undone_own st x r (ap was_done is ∙ not_done))) none_counted

-- ---- a session is opened

pub accepts_next : (st : State) (s : ℕ) → s ≡ st.last_session + 1 → st.last_session < 2 ^ 31 → accepts st (input.Open s) ≡ true
accepts_next st s is small = rw is (grind (arith, nat_tests))

get_zero : (xs : List ℕ) (i : ℕ) → get_or (xs ++ 0 ∷ []) i 0 ≡ get_or xs i 0
get_zero [] zero = refl
get_zero [] (suc i) = refl
get_zero (x ∷ xs) zero = refl
get_zero (x ∷ xs) (suc i) = get_zero xs i

pub opens_only : (st : State) (s : ℕ) (r : Result Unit Stopped) → accepts st (input.Open s) ≡ true → was_done r ≡ true → acted st (input.Open s) r ≡ step.Open s ∷ []
opens_only st s r legal done = rw (legal, done) refl

pub grows_by_open : (h k : History) (s : ℕ) → IsKept h → s ≡ h.state.last_session + 1
    → k.asked ≡ h.asked ++ 0 ∷ [] → k.asks_book ≡ h.asks_book → k.taken ≡ h.taken ++ 0 ∷ [] → k.outs_book ≡ h.outs_book → CountsUp h k (step.Open s ∷ [])
grows_by_open h k s was is asked asks taken outs = record {
  asked = λ i. rw asked (get_zero h.asked i ∙ sym (add-zero _));
  taken = λ i. rw taken (get_zero h.taken i ∙ sym (add-zero _));
  asks_book = rw (asked, asks) (omega (arith, was.asks_book, sum_by-append (λ n. n) h.asked (0 ∷ [])));
  outs_book = rw (taken, outs) (omega (arith, was.outs_book, sum_by-append (λ n. n) h.taken (0 ∷ [])));
  askers = rw asked (omega (arith, length-append h.asked (0 ∷ []), was.askers, is));
  takers = rw taken (omega (arith, length-append h.taken (0 ∷ []), was.takers, is));
}

pub whole_begun : (h k : History) (b c : Beside) (steps : List Step) (s : ℕ) → IsWhole h b → KeepsEra h k → Makes h.state k.state h.steps k.steps steps
    → own_of steps ≡ step.Open s ∷ [] → CountsUp h k (step.Open s ∷ []) → s ≡ h.state.last_session + 1 → StaysWithin h k b c
    → c.asks_parts + 1 ≡ b.asks_parts → c.outs_parts + 1 ≡ b.outs_parts → c.asks_amount + 0 ≡ b.asks_amount → c.outs_amount + 0 ≡ b.outs_amount
    → c.asks_sum ≡ k.asks_book → c.outs_sum ≡ k.outs_book → IsWhole k c
whole_begun h k b c steps s was era makes own grows is within asks_parts outs_parts asks_amount outs_amount asks_sum outs_sum =
    let last : k.state.last_session ≡ s = last_on h k steps makes ∙ ap (last_by h.state.last_session) own in
    record {
      kept = kept_on h k steps was.kept era makes (subst (CountsUp h k) (sym own) grows) within.within;
      asks_sum = asks_sum;
      outs_sum = outs_sum;
      asks_parts = omega (arith, was.asks_parts, asks_parts, last, is);
      asks_amount = omega (arith, was.asks_amount, asks_amount);
      outs_parts = omega (arith, was.outs_parts, outs_parts, last, is);
      outs_amount = omega (arith, was.outs_amount, outs_amount);
      some = within.some;
      era = within.era;
      limit = within.limit;
      bound = within.bound;
      room = within.room;
    }

pub performs_begun : (h k : History) (own steps : List Step) (s : ℕ) (r : Result Unit Stopped) → IsKept h → KeepsEra h k → Makes h.state k.state h.steps k.steps steps → own_of steps ≡ step.Open s ∷ [] → s ≡ h.state.last_session + 1
    → k.asked ≡ h.asked ++ 0 ∷ [] → k.asks_book ≡ h.asks_book → k.taken ≡ h.taken ++ 0 ∷ [] → k.outs_book ≡ h.outs_book
    → own_of steps ≡ own → Leaves r k.state (touched h.state steps ++ h.debt) k.debt → GrowsAsAsked h k own r
performs_begun h k own steps s r was era makes opens is asked asks taken outs is_own left =
    performs_in_era h k own steps r era makes (subst (CountsUp h k) (sym opens) (grows_by_open h k s was is asked asks taken outs)) is_own left

-- ---- a session is closed

pub shuts_one : (st : State) (s : ℕ) → is_open st s ≡ true → shuts st s ≡ step.Shut s ∷ []
shuts_one st s h = rw h refl

shut_counts : (s : ℕ) (h k : History) → IsKept h → KeepsAsks h k → KeepsOuts h k → CountsUp h k (step.Shut s ∷ [])
shut_counts s h k was asks outs = record {
  asked = λ i. rw asks.asked (sym (add-zero _));
  taken = λ i. rw outs.taken (sym (add-zero _));
  asks_book = asks.book ∙ (was.asks_book ∙ ap sum (sym asks.asked));
  outs_book = outs.book ∙ (was.outs_book ∙ ap sum (sym outs.taken));
  askers = ap length asks.asked ∙ was.askers;
  takers = ap length outs.taken ∙ was.takers;
}

pub whole_shut : (h k : History) (b c : Beside) (s : ℕ) → IsWhole h b → KeepsEra h k → is_open h.state s ≡ true → Makes h.state k.state h.steps k.steps (shuts h.state s)
    → KeepsAsks h k → KeepsOuts h k → KeepsRoom h.state k.state b.spare c.spare → c.limit ≡ b.limit + 1 → c.bound ≡ Some c.limit → KeepsShares b c
    → c.asks_sum ≡ k.asks_book → c.outs_sum ≡ k.outs_book → IsWhole k c
whole_shut h k b c s was era opened makes asks outs room limit bound shares asks_sum outs_sum =
    let one = shuts_one h.state s opened in
    let makes_one : Makes h.state k.state h.steps k.steps (step.Shut s ∷ []) = subst (λ xs. Makes h.state k.state h.steps k.steps xs) one makes in
    let more : limit_of k ≡ limit_of h + 1 = rw (makes_one.log, era.era) (omega (arith, shuts_append h.steps (step.Shut s ∷ []))) in
    let longer : length k.steps ≡ length h.steps + 1 = rw makes_one.log (omega (arith, length-append h.steps (step.Shut s ∷ []))) in
    whole_on h k b c (step.Shut s ∷ []) was era makes_one (shut_counts s h k was.kept asks outs) refl
    (record { within = omega (arith, longer, more, was.kept.within); limit = omega (arith, limit, more, was.limit); bound = bound; some = rw era.era was.some; era = rw era.era was.era; room = room was.room })
    shares asks_sum outs_sum
