-- Handing out answers, and closing sessions.
use Rattle.std.proofs.Common.{◌≡◌, ℕ, ◌≤◌, List, [], ◌∷◌, ◌++◌, true, length, refl}
use Rattle.std.proofs.lemmas.Bool.{le-leb}
use Rattle.jsp_model.specs.declared.state.State.{State}
use Rattle.jsp_model.specs.declared.step.Step.{Step}
use Rattle.jsp_model.specs.declared.step.Step.TheVariants as step
use Rattle.jsp_model.specs.Lookup.{is_open}
use Rattle.jsp_model.specs.Steps.{is_legal, next}
use Rattle.jsp_model.specs.Outboxes.{outbox_of}
use Rattle.jsp_model.specs.House.{Makes, shuts}
use Rattle.jsp_house.proofs.Going.{makes_one}

hand_out_legal : (st : State) (s n : ℕ) → 1 ≤ n → n ≤ length (outbox_of st s) → is_legal st (step.HandOut s n) ≡ true
unfolding is_legal
hand_out_legal st s n some there = rw (le-leb 1 n some, le-leb n (length (outbox_of st s)) there) refl

pub makes_hand_out : (old new : State) (before after : List Step) (s n : ℕ) → 1 ≤ n → n ≤ length (outbox_of old s) → new ≡ next old (step.HandOut s n) → after ≡ before ++ step.HandOut s n ∷ [] → Makes old new before after (step.HandOut s n ∷ [])
makes_hand_out old new before after s n some there made log = makes_one old new before after (step.HandOut s n) (hand_out_legal old s n some there) made log

shut_legal : (st : State) (s : ℕ) → is_open st s ≡ true → is_legal st (step.Shut s) ≡ true
unfolding is_legal
shut_legal st s there = there

pub makes_shut : (old new : State) (before after : List Step) (s : ℕ) → is_open old s ≡ true → new ≡ next old (step.Shut s) → after ≡ before ++ step.Shut s ∷ [] → Makes old new before after (shuts old s)
makes_shut old new before after s there made log = rw there (makes_one old new before after (step.Shut s) (shut_legal old s there) made log)
