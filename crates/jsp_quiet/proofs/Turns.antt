-- Settle turns: what was quiet still is, and what a vote or a decision answers.
use Rattle.std.proofs.Common.{◌≡◌, refl, sym, subst, ℕ, List, [], length, Bool, true, false, not, Option, Some, None, is_none}
use Rattle.std.specs.Prelude.{find, if◌then◌else◌, option_map}
use Rattle.std.specs.List.{list_all, list_any, range_with_len}
use Rattle.std.specs.Option.{option_map_or}
use Rattle.std.proofs.lemmas.Bool.{not-false}
use Rattle.jsp_model.specs.declared.state.State.{State}
use Rattle.jsp_model.specs.declared.state.Space.{Space}
use Rattle.jsp_model.specs.declared.state.Joined.{Joined}
use Rattle.jsp_model.specs.declared.step.Step.{Step}
use Rattle.jsp_model.specs.declared.step.Step.TheVariants as step
use Rattle.jsp_model.specs.Lookup.{joined_of}
use Rattle.jsp_model.specs.Quiet.{is_quiet, are_quiet}
use Rattle.jsp_model.specs.Runs.{IsRun, state_after}
use Rattle.jsp_model.specs.Steps.{is_vote_to_abort}
use Rattle.jsp_model.specs.Settling.{first_voting, turn_of, settle_step, places, AllQuiet}
use Rattle.jsp_model.specs.House.{AnswersTurn, answer_to, own_of, touched}
use Rattle.jsp_model.proofs.Closing.{free_run_spaces}
use Rattle.jsp_laws.proofs.Lists.{each_has, each_by_all}
use Rattle.jsp_quiet.specs.Steady.{IsSteady}
use Rattle.jsp_quiet.specs.Quieting.{decides}
use Rattle.jsp_quiet.proofs.Lists.{find_none, all_has}
use Rattle.jsp_quiet.proofs.Runs.{quiet_act}
use Rattle.jsp_quiet.proofs.Driving.{undecided}

-- ---- all spaces are quiet

pub none_unquiet : (st : State) → find (λ p. not (is_quiet st p)) (places st) ≡ None → list_all (is_quiet st) (places st) ≡ true
none_unquiet st none = all_has (is_quiet st) (places st) (λ p k. not-false (is_quiet st p) (find_none (λ p. not (is_quiet st p)) (places st) p none k))

-- what was quiet still is, after such steps that leave quiet what they touch
pub still_quiet : (old new : State) (steps : List Step) → IsSteady old → IsRun old steps → state_after old steps ≡ new → own_of steps ≡ [] → are_quiet new (touched old steps) ≡ true → AllQuiet old → AllQuiet new
still_quiet old new steps h run view own here quiet =
    let undecides : list_all (λ x. not (decides x)) steps ≡ true = undecided steps (rw own refl) in
    let spaces : new.spaces ≡ old.spaces = subst (λ (w : State). w.spaces ≡ old.spaces) view (free_run_spaces old steps own) in
    let at_end : are_quiet (state_after old steps) (touched old steps) ≡ true = subst (λ (w : State). are_quiet w (touched old steps) ≡ true) (sym view) here in
    let all : list_all (is_quiet new) (places old) ≡ true = all_has (is_quiet new) (places old) (λ p k. subst (λ (w : State). is_quiet w p ≡ true) view (quiet_act old steps p h run undecides at_end (each_has (λ q. is_quiet old q ≡ true) (places old) p (each_by_all (is_quiet old) (places old) quiet) k))) in
    subst (λ (ps : List Space). list_all (is_quiet new) (range_with_len 0 (length ps)) ≡ true) (sym spaces) all

-- ---- a vote or a decision

-- of what votes and decisions are it is true
pub turn_by : (P : Step → Type 0) (st : State) (s : Step) → ((x space : ℕ) → P (step.Vote x space)) → ((x : ℕ) (c : Bool) → P (step.Decide x c)) → settle_step st ≡ Some s → P s
turn_by P st s vote decide e = go (first_voting st) e
  where
    at : (x : ℕ) (b : Bool) (o : Option Joined) → P (if b then step.Decide x false else option_map_or (λ j. step.Vote x j.space) o (step.Decide x true))
    at x true o = decide x false
    at x false None = decide x true
    at x false (Some j) = vote x j.space

    go : (o : Option ℕ) → option_map (turn_of st) o ≡ Some s → P s
    go None k = absurd (cc)
    go (Some x) k =
        let is : turn_of st x ≡ s = cc (k) in
        subst P is (at x (list_any is_vote_to_abort (joined_of st x)) (find (λ (j : Joined). is_none j.vote) (joined_of st x)))

pub settle_answers : (old new : State) (s : Step) → settle_step old ≡ Some s → AnswersTurn old new (answer_to s)
settle_answers old new s e = turn_by (λ w. settle_step old ≡ Some w → AnswersTurn old new (answer_to w)) old s (λ x space k. (x, space, k)) (λ x c k. (x, c, k)) e e
