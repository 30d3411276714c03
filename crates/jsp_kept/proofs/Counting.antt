-- Calls that open and close no session: what they count is told by their own steps.
use Rattle.std.proofs.Common.{◌≡◌, ℕ, ◌+◌, ◌-◌, ◌<◌, List, length, sym, ◌∙◌, ap}
use Rattle.jsp_model.specs.declared.step.Step.{Step}
use Rattle.jsp_model.specs.House.{own_of, Makes, KeepsRoom, KeepsBound}
use Rattle.jsp_kept.specs.History.{History, Beside, IsWhole}
use Rattle.jsp_kept.specs.Calls.{KeepsEra, KeepsAsks, KeepsOuts, raised}
use Rattle.jsp_kept.proofs.Owns.{IsUncounted, CountsAsk, CountsOut}
use Rattle.jsp_kept.proofs.Keeping.{KeepsShares, grows_quietly, grows_by_ask, grows_by_out, stays_within, whole_on}

-- what all of them keep
pub record Carries (h k : History) (b c : Beside) (steps : List Step) (before after : ℕ) : Type 0 where
  pub era : KeepsEra h k
  pub makes : Makes h.state k.state h.steps k.steps steps
  pub room : KeepsRoom h.state k.state b.spare c.spare
  pub bound : KeepsBound b.bound c.bound before after
  pub before_is : before ≡ length h.steps
  pub after_is : after ≡ length k.steps
  pub limit : c.limit ≡ b.limit
  pub shares : KeepsShares b c

-- nothing is counted
pub whole_quietly : (h k : History) (b c : Beside) (steps : List Step) (before after : ℕ) → IsWhole h b → Carries h k b c steps before after
    → IsUncounted (own_of steps) → KeepsAsks h k → KeepsOuts h k → c.asks_sum ≡ b.asks_sum → c.outs_sum ≡ b.outs_sum → IsWhole k c
whole_quietly h k b c steps before after was now none asks outs asks_sum outs_sum =
    whole_on h k b c steps was now.era now.makes (grows_quietly h k (own_of steps) was.kept none asks outs) (none.last h.state.last_session)
    (stays_within h k b c steps before after was now.era now.makes none.shuts now.room now.bound now.before_is now.after_is now.limit)
    now.shares (asks_sum ∙ (was.asks_sum ∙ sym asks.book)) (outs_sum ∙ (was.outs_sum ∙ sym outs.book))

-- requests of one session
pub whole_by_ask : (h k : History) (b c : Beside) (steps : List Step) (before after s by : ℕ) → IsWhole h b → Carries h k b c steps before after
    → CountsAsk (own_of steps) s by → 0 < s → s - 1 < length h.asked → k.asked ≡ raised h.asked (s - 1) by → k.asks_book ≡ h.asks_book + by
    → KeepsOuts h k → c.asks_sum ≡ b.asks_sum + by → c.outs_sum ≡ b.outs_sum → IsWhole k c
whole_by_ask h k b c steps before after s by was now one above within asked book outs asks_sum outs_sum =
    whole_on h k b c steps was now.era now.makes (grows_by_ask h k (own_of steps) s by was.kept one above within asked book outs) (one.last h.state.last_session)
    (stays_within h k b c steps before after was now.era now.makes one.shuts now.room now.bound now.before_is now.after_is now.limit)
    now.shares (asks_sum ∙ (ap (λ n. n + by) was.asks_sum ∙ sym book)) (outs_sum ∙ (was.outs_sum ∙ sym outs.book))

-- answers of one session
pub whole_by_out : (h k : History) (b c : Beside) (steps : List Step) (before after s by : ℕ) → IsWhole h b → Carries h k b c steps before after
    → CountsOut (own_of steps) s by → 0 < s → s - 1 < length h.taken → k.taken ≡ raised h.taken (s - 1) by → k.outs_book ≡ h.outs_book + by
    → KeepsAsks h k → c.asks_sum ≡ b.asks_sum → c.outs_sum ≡ b.outs_sum + by → IsWhole k c
whole_by_out h k b c steps before after s by was now one above within taken book asks asks_sum outs_sum =
    whole_on h k b c steps was now.era now.makes (grows_by_out h k (own_of steps) s by was.kept one above within taken book asks) (one.last h.state.last_session)
    (stays_within h k b c steps before after was now.era now.makes one.shuts now.room now.bound now.before_is now.after_is now.limit)
    now.shares (asks_sum ∙ (was.asks_sum ∙ sym asks.book)) (outs_sum ∙ (ap (λ n. n + by) was.outs_sum ∙ sym book))
