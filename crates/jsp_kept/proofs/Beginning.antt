-- A new history is whole.
use Rattle.std.proofs.Common.{◌≡◌, ℕ, ◌+◌, ◌≤◌, ◌^◌, List, [], Some, length, refl, sym, ◌∙◌, ap, add-zero, arith}
use Rattle.jsp_model.specs.declared.state.State.{State}
use Rattle.jsp_model.specs.Lookup.{empty}
use Rattle.jsp_quiet.proofs.Steady.{steady_empty}
use Rattle.jsp_kept.specs.History.{History, Beside, IsWhole, limit_of}

pub record IsNew (b : Beside) (limit : ℕ) : Type 0 where
  pub asks_sum : b.asks_sum ≡ 0
  pub outs_sum : b.outs_sum ≡ 0
  pub asks_parts : b.asks_parts ≡ 2 ^ 31 + 1
  pub asks_amount : b.asks_amount ≡ 0
  pub outs_parts : b.outs_parts ≡ 2 ^ 31 + 1
  pub outs_amount : b.outs_amount ≡ 0
  pub limit_is : b.limit ≡ limit
  pub bound : b.bound ≡ Some limit

pub record IsBlank (h : History) : Type 0 where
  pub state : h.state ≡ empty h.spaces
  pub steps : h.steps ≡ []
  pub asked : h.asked ≡ []
  pub taken : h.taken ≡ []
  pub asks_book : h.asks_book ≡ 0
  pub outs_book : h.outs_book ≡ 0

pub whole_new : (h : History) (b : Beside) → IsBlank h → 1 ≤ h.era → h.era ≤ 16777216 → IsNew b h.era → IsWhole h b
whole_new h b k some most n =
    let none : length h.steps ≡ 0 = ap length k.steps in
    let last : h.state.last_session ≡ 0 = ap (λ (st : State). st.last_session) k.state in
    let limit : limit_of h ≡ h.era = rw k.steps (add-zero h.era) in
    record {
      kept = record {
        earlier = [];
        first = λ u. refl;
        run = rw k.steps refl;
        state = rw k.steps k.state;
        steady = rw k.state (steady_empty h.spaces);
        asked = λ i. rw (k.asked, k.steps) refl;
        taken = λ i. rw (k.taken, k.steps) refl;
        asks_book = rw (k.asks_book, k.asked) refl;
        outs_book = rw (k.outs_book, k.taken) refl;
        askers = rw (k.asked, k.state) refl;
        takers = rw (k.taken, k.state) refl;
        within = omega (arith, none);
      };
      asks_sum = n.asks_sum ∙ sym k.asks_book;
      outs_sum = n.outs_sum ∙ sym k.outs_book;
      asks_parts = omega (arith, n.asks_parts, last);
      asks_amount = n.asks_amount;
      outs_parts = omega (arith, n.outs_parts, last);
      outs_amount = n.outs_amount;
      some = some;
      era = most;
      limit = n.limit_is ∙ sym limit;
      bound = n.bound ∙ ap (λ m. Some m) (sym n.limit_is);
      room = omega (arith, ap (λ (st : State). length st.sessions) k.state);
    }
