-- A new era begins where a history stands.
use Rattle.std.proofs.Common.{◌≡◌, ℕ, ◌+◌, ◌≤◌, List, [], ◌++◌, true, false, length, get_or, sum, Some, refl, sym, ◌∙◌, ap, subst, arith, add-zero, true≢false}
use Rattle.std.proofs.lemmas.List.{append-nil}
use Rattle.jsp_model.specs.Lookup.{empty}
use Rattle.jsp_model.specs.Runs.{IsRun, state_after}
use Rattle.jsp_kept.specs.Counts.{asks_of, outs_of}
use Rattle.jsp_kept.specs.History.{History, Beside, IsKept, IsWhole}
use Rattle.jsp_kept.specs.Calls.{Seals}
use Rattle.jsp_kept.proofs.Keeping.{KeepsShares}

-- what stands beside it then
pub record Starts (b c : Beside) (era : ℕ) : Type 0 where
  pub limit : c.limit ≡ era
  pub bound : c.bound ≡ Some c.limit
  pub shares : KeepsShares b c
  pub asks_sum : c.asks_sum ≡ b.asks_sum
  pub outs_sum : c.outs_sum ≡ b.outs_sum
  pub spare : b.spare ≤ c.spare

-- the steps of the era before are among the earlier ones
kept_sealed : (h k : History) → IsKept h → Seals h k → IsKept k
kept_sealed h k was s = let none : was.earlier ++ h.steps ≡ (was.earlier ++ h.steps) ++ [] = sym (append-nil (was.earlier ++ h.steps)) in record {
  earlier = was.earlier ++ h.steps;
  first = λ u. absurd (true≢false (sym s.is_sealed ∙ u));
  run = rw (s.steps, s.spaces) (subst (IsRun (empty h.spaces)) none was.run);
  state = rw (s.steps, s.spaces) (s.state ∙ (was.state ∙ ap (state_after (empty h.spaces)) none));
  steady = rw s.state was.steady;
  asked = λ i. rw (s.asked, s.steps) (was.asked i ∙ ap (asks_of (i + 1)) none);
  taken = λ i. rw (s.taken, s.steps) (was.taken i ∙ ap (outs_of (i + 1)) none);
  asks_book = s.asks_book ∙ (was.asks_book ∙ ap sum (sym s.asked));
  outs_book = s.outs_book ∙ (was.outs_book ∙ ap sum (sym s.taken));
  askers = rw (s.asked, s.state) was.askers;
  takers = rw (s.taken, s.state) was.takers;
  within = omega (arith, ap length s.steps);
}

pub whole_sealed : (h k : History) (b c : Beside) → IsWhole h b → Seals h k → Starts b c h.era → IsWhole k c
whole_sealed h k b c was s now = record {
  kept = kept_sealed h k was.kept s;
  asks_sum = now.asks_sum ∙ (was.asks_sum ∙ sym s.asks_book);
  outs_sum = now.outs_sum ∙ (was.outs_sum ∙ sym s.outs_book);
  asks_parts = rw (now.shares.asks_parts, s.state) was.asks_parts;
  asks_amount = now.shares.asks_amount ∙ was.asks_amount;
  outs_parts = rw (now.shares.outs_parts, s.state) was.outs_parts;
  outs_amount = now.shares.outs_amount ∙ was.outs_amount;
  some = rw s.era was.some;
  era = rw s.era was.era;
  limit = now.limit ∙ (sym s.era ∙ sym (rw s.steps (add-zero k.era)));
  bound = now.bound;
  room = rw s.state (omega (arith, was.room, now.spare));
}
