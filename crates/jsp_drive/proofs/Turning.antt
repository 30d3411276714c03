-- What a settle turn makes, and what it leaves quiet.
use Rattle.std.proofs.Common.{◌≡◌, ℕ, Bool, true, false, not, List, [], ◌∷◌, Option, Some, None, refl, ap, sym, ◌∙◌}
use Rattle.std.specs.Prelude.{find, cond, is_none, Ok, option_to_list, option_map}
use Rattle.std.specs.List.{list_any, list_all}
use Rattle.std.specs.Option.{option_map_or}
use Rattle.std.proofs.lemmas.Bool.{and_parts}
use Rattle.jsp_model.specs.declared.state.State.{State}
use Rattle.jsp_model.specs.declared.state.Joined.{Joined}
use Rattle.jsp_model.specs.declared.step.Step.{Step}
use Rattle.jsp_model.specs.declared.step.Step.TheVariants as step
use Rattle.jsp_model.specs.declared.house.Settled.{Settled}
use Rattle.jsp_model.specs.declared.house.Settled.TheVariants as settled
use Rattle.jsp_model.specs.Lookup.{joined_of}
use Rattle.jsp_model.specs.Quiet.{is_quiet}
use Rattle.jsp_model.specs.Steps.{is_vote_to_abort}
use Rattle.jsp_model.specs.Runs.{state_after}
use Rattle.jsp_model.specs.Settling.{first_voting, turn_of, settle_step, places, first_unquiet}
use Rattle.jsp_model.specs.House.{own_of, touched, AnswersTurn, Settles}
use Rattle.jsp_model.proofs.Closing.{free_run_spaces}
use Rattle.jsp_drive.specs.Calls.{Turns}
use Rattle.jsp_drive.proofs.Quieting.{quiet_first}

-- ---- the step of a turn

-- a vote or a decision
abbrev pub is_turn : Step → Bool
is_turn (step.Vote x space) = true
is_turn (step.Decide x commits) = true
is_turn _ = false

next_vote : (x : ℕ) (o : Option Joined) → is_turn (option_map_or (λ j. step.Vote x j.space) o (step.Decide x true)) ≡ true
next_vote x None = refl
next_vote x (Some j) = refl

either_turn : (x : ℕ) (aborts : Bool) (o : Option Joined) → is_turn (cond aborts (step.Decide x false) (option_map_or (λ j. step.Vote x j.space) o (step.Decide x true))) ≡ true
either_turn x true o = refl
either_turn x false o = next_vote x o

turns : (st : State) (o : Option ℕ) → list_all is_turn (option_to_list (option_map (turn_of st) o)) ≡ true
turns st None = refl
turns st (Some x) = rw (either_turn x (list_any is_vote_to_abort (joined_of st x)) (find (λ (j : Joined). is_none j.vote) (joined_of st x))) refl

pub settles_turn : (st : State) → list_all is_turn (option_to_list (settle_step st)) ≡ true
settles_turn st = turns st (first_voting st)

-- ---- the first unquiet space

found_at : (b : Bool) (t q : ℕ → Bool) (x p : ℕ) (xs : List ℕ) → t x ≡ b → find t (x ∷ xs) ≡ Some p → q x ≡ true → (find t xs ≡ Some p → q p ≡ true) → q p ≡ true
found_at true t q x p xs is h first rest = let found : Some x ≡ Some p = rw is at h in let same : x ≡ p = cc (found) in ap q (sym same) ∙ first
found_at false t q x p xs is h first rest = rest (rw is at h)

-- what is found is one of them
found_all : (t q : ℕ → Bool) (xs : List ℕ) (p : ℕ) → find t xs ≡ Some p → list_all q xs ≡ true → q p ≡ true
found_all t q [] p h all = cc (h)
found_all t q (x ∷ xs) p h all =
    let parts = and_parts (q x) (list_all q xs) all in
    found_at (t x) t q x p xs refl h parts.0 (λ f. found_all t q xs p f parts.1)

-- where no transaction votes, it is quiet at the end
pub first_quiet : (old new : State) (steps : List Step) (answer : Settled) (p : ℕ) → state_after old steps ≡ new → own_of steps ≡ option_to_list (settle_step old)
    → AnswersTurn old new answer → settle_step old ≡ None → first_unquiet old ≡ Some p → is_quiet new p ≡ true
first_quiet old new steps settled.Voted p view own h none first = cc (h.2, none)
first_quiet old new steps settled.Decided p view own h none first = cc (h.2, none)
first_quiet old new steps settled.Quieted p view own h none first =
    let found : Some h.1 ≡ Some p = sym h.2 ∙ first in
    let same : h.1 ≡ p = cc (found) in
    ap (is_quiet new) (sym same) ∙ h.3
first_quiet old new steps settled.Idle p view own h none first =
    let spaces : new.spaces ≡ old.spaces = ap (λ (w : State). w.spaces) (sym view) ∙ free_run_spaces old steps (own ∙ ap option_to_list none) in
    let first' : find (λ q. not (is_quiet old q)) (places new) ≡ Some p = rw spaces first in
    found_all (λ q. not (is_quiet old q)) (is_quiet new) (places new) p first' h.1

-- ---- the whole turn

pub turned : (old new : State) (owed left : List ℕ) (log log' : List Step) (answer : Settled) → Settles old new owed left log log' (Ok answer) → Turns old new log log'
turned old new owed left log log' answer h = record {
  steps = h.steps;
  makes = h.makes;
  own = h.own;
  nothing_due = h.leaves.0;
  quiet = quiet_first new (touched old h.steps) owed h.leaves.1;
  first_quiet = λ none p first. first_quiet old new h.steps answer p h.makes.view h.own h.answers none first;
}
