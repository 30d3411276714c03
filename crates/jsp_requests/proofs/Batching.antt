-- Batches of leases: one item more.
use Rattle.std.proofs.Common.{◌≡◌, ℕ, ℤ, ◌+◌, ◌<◌, ◌≤◌, List, [], ◌∷◌, ◌++◌, length, map, take, get_or, ap, sym, ◌∙◌}
use Rattle.std.specs.List.{scan}
use Rattle.std.proofs.lemmas.List.{take_more}
use Rattle.jsp_reply.specs.declared.reply.LeaseAnswer.{LeaseAnswer}
use Rattle.jsp_model.specs.declared.state.State.{State}
use Rattle.jsp_model.specs.Changes.{renew_one, cancel_one}
use Rattle.jsp_model.specs.Answers.{renew_answer, cancel_answer}
use Rattle.jsp_model.specs.Limits.{bearers}
use Rattle.jsp_model.proofs.Renewing.{renew_answers}
use Rattle.jsp_model.proofs.Cancelling.{cancel_outcome, cancel_answers_more}

pub all_renewed : (st : State) (leases : List (ℤ × ℤ)) (found : List LeaseAnswer) → found ≡ map (renew_answer st) leases → found ≡ scan renew_one renew_answer st leases
all_renewed st leases found is = is ∙ sym (renew_answers st leases)

-- one lease more is cancelled
pub cancelled_more : (st : State) (leases : List ℤ) (i : ℕ) (d : ℤ) (old new : List LeaseAnswer) → ((n : ℕ) → bearers st n ≤ 1) → i < length leases → old ≡ scan cancel_one cancel_answer st (take i leases)
    → new ≡ old ++ record { lease = get_or leases i d; outcome = cancel_outcome st (take i leases) (get_or leases i d) } ∷ [] → new ≡ scan cancel_one cancel_answer st (take (i + 1) leases)
cancelled_more st leases i d old new numbers lt so more =
    let l = get_or leases i d in
    let answer : LeaseAnswer = record { lease = l; outcome = cancel_outcome st (take i leases) l } in
    more ∙ (ap (λ w. w ++ answer ∷ []) so ∙ (sym (cancel_answers_more st (take i leases) l numbers) ∙ ap (scan cancel_one cancel_answer st) (sym (take_more leases i d lt))))
