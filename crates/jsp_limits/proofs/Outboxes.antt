-- Outboxes stay in order, and none is empty.
use Rattle.std.proofs.Common.{◌≡◌, ℕ, Bool, true, false, nat_lt, List, [], ◌∷◌, length, drop, refl, ◌∙◌}
use Rattle.std.specs.Prelude.{◌&&◌, ◌==◌, cond, fold}
use Rattle.std.proofs.lemmas.Bool.{and_from}
use Rattle.jsp_model.specs.declared.state.Outbox.{Outbox}
use Rattle.jsp_model.specs.declared.step.Step.{Step}
use Rattle.jsp_model.specs.declared.step.Step.TheVariants as step
use Rattle.jsp_model.specs.Lookup.{update}
use Rattle.jsp_model.specs.Answers.{Saying}
use Rattle.jsp_model.specs.Steps.{after_hand_out}
use Rattle.jsp_model.specs.Outboxes.{post, hand_out}
use Rattle.jsp_model.specs.Limits.{are_outboxes}
use Rattle.jsp_model.proofs.Outboxes.{are_above, rising_of, rising_posts}
use Rattle.jsp_limits.proofs.Lists.{Fewer, fewer_filter, fewer_update, fewer_then, all_fewer}

abbrev without_first : ℕ → ℕ → Outbox → Outbox
without_first s n b = cond (b.session == s) (record b { answers = drop n b.answers }) b

session_stays : (s n : ℕ) (b : Outbox) → (without_first s n b).session ≡ b.session
session_stays s n b = elim (b.session == s) as (λ e. (cond e (record b { answers = drop n b.answers }) b).session ≡ b.session) [ true ↦ refl | false ↦ refl ]

handed_fewer : (s n : ℕ) (boxes : List Outbox) → Fewer (λ b c. c.session ≡ b.session) boxes (hand_out s n boxes)
handed_fewer s n boxes =
    fewer_then (λ a b c f g. g ∙ f)
    (fewer_update {R = λ b c. c.session ≡ b.session} (λ b. refl) (λ (b : Outbox). b.session == s) (λ (b : Outbox). record b { answers = drop n b.answers }) (λ b. refl) boxes)
    (fewer_filter {R = λ b c. c.session ≡ b.session} (λ b. refl) (λ (b : Outbox). nat_lt 0 (length b.answers)) (update (λ (b : Outbox). b.session == s) (λ (b : Outbox). record b { answers = drop n b.answers }) boxes))

outboxes_hand_out : (s n : ℕ) (boxes : List Outbox) → are_outboxes boxes ≡ true → are_outboxes (hand_out s n boxes) ≡ true
outboxes_hand_out s n [] h = refl
outboxes_hand_out s n (b ∷ boxes) h =
    let f = rising_of b boxes h in
    let c = without_first s n b in
    let above = all_fewer (λ (c : Outbox). nat_lt b.session c.session) (λ (c : Outbox). nat_lt b.session c.session) (λ x y e k. rw e k) (handed_fewer s n boxes) f.above in
    go c (session_stays s n b) (nat_lt 0 (length c.answers)) refl above (outboxes_hand_out s n boxes f.rest)
  where
    go : (c : Outbox) → c.session ≡ b.session → (some : Bool) → nat_lt 0 (length c.answers) ≡ some → are_above b.session (hand_out s n boxes) ≡ true → are_outboxes (hand_out s n boxes) ≡ true
        → are_outboxes (cond some (c ∷ hand_out s n boxes) (hand_out s n boxes)) ≡ true
    go c same true is above rest =
        and_from (nat_lt 0 (length c.answers) && are_above c.session (hand_out s n boxes)) (are_outboxes (hand_out s n boxes))
        (and_from (nat_lt 0 (length c.answers)) (are_above c.session (hand_out s n boxes)) is (rw same above)) rest
    go c same false is above rest = rest

outboxes_handed : (act : Step) (boxes : List Outbox) → are_outboxes boxes ≡ true → are_outboxes (after_hand_out act boxes) ≡ true
outboxes_handed (step.HandOut s n) boxes h = outboxes_hand_out s n boxes h
outboxes_handed _ boxes h = h

pub outboxes_after : (act : Step) (sayings : List Saying) (boxes : List Outbox) → are_outboxes boxes ≡ true → are_outboxes (after_hand_out act (fold post boxes sayings)) ≡ true
outboxes_after act sayings boxes h = outboxes_handed act (fold post boxes sayings) (rising_posts boxes sayings h)
