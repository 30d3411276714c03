-- Where no transaction votes, a settle turn makes a space quiet, or all are.
use Rattle.std.proofs.Common.{◌≡◌, refl, ap, ◌∙◌, ℕ, List, [], ◌∷◌, ◌++◌, Bool, true, false, Some, None, Ok, Err}
use Rattle.std.specs.Prelude.{if◌then◌else◌, option_to_list}
use Rattle.std.specs.List.{list_all}
use Rattle.std.proofs.lemmas.Bool.{and_parts}
use Rattle.jsp_model.specs.declared.state.State.{State}
use Rattle.jsp_model.specs.declared.step.Step.{Step}
use Rattle.jsp_model.specs.declared.house.Stopped.{Stopped}
use Rattle.jsp_model.specs.declared.house.Settled.TheVariants as settled
use Rattle.jsp_model.specs.declared.house.Why.TheVariants as why
use Rattle.jsp_model.specs.Lookup.{contains}
use Rattle.jsp_model.specs.Quiet.{is_quiet}
use Rattle.jsp_model.specs.Settling.{settle_step, first_unquiet}
use Rattle.jsp_model.specs.House.{Covers, OwesOnce, Settles, Finishes, touched}
use Rattle.jsp_model.proofs.Joining.{Makes-none}
use Rattle.jsp_laws.proofs.Lists.{each_numbers}
use Rattle.jsp_quiet.specs.Steady.{IsSteady}
use Rattle.jsp_house.proofs.Order.{covers_itself, turn_less}
use Rattle.jsp_quiet.proofs.Turns.{none_unquiet, still_quiet}
use Rattle.jsp_quiet.proofs.Covering.{all_both, all_parts, covered, covers_more}

-- ---- all spaces are quiet

none_due : (old : State) (b : Bool) → settle_step old ≡ None → [] ≡ (if b then option_to_list (settle_step old) else [])
none_due old true e = rw e refl
none_due old false e = refl

pub idle : (old new : State) (owed left : List ℕ) (before after : List Step) → IsSteady old → settle_step old ≡ None → first_unquiet old ≡ None → Finishes old new owed left before after (Ok tt) → Settles old new owed left before after (Ok settled.Idle)
idle old new owed left before after h none quiet f = record {
  steps = f.steps;
  makes = f.makes;
  own = f.own ∙ none_due old true none;
  leaves = f.leaves;
  answers = (none, still_quiet old new f.steps h f.makes.run f.makes.view f.own (all_parts (is_quiet new) (touched old f.steps) owed f.leaves.1).0 (none_unquiet old quiet));
  turn = f.turn;
  once = f.once;
}

-- ---- a space is owed

covers_part : (t : ℕ → Bool) (ps owed spaces : List ℕ) → Covers owed spaces → list_all t (ps ++ owed) ≡ true → list_all t (ps ++ spaces) ≡ true
covers_part t ps owed spaces c h = let parts = all_parts t ps owed h in all_both t ps spaces parts.0 (covered t owed spaces c parts.1)

pub quieted : (old new : State) (owed debt left : List ℕ) (before after : List Step) (p : ℕ) → settle_step old ≡ None → first_unquiet old ≡ Some p → Covers debt owed → OwesOnce owed debt → Covers debt (p ∷ []) → Finishes old new debt left before after (Ok tt) → Settles old new owed left before after (Ok settled.Quieted)
quieted old new owed debt left before after p none found c o d f =
    let quiet = all_parts (is_quiet new) (touched old f.steps) debt f.leaves.1 in
    record {
      steps = f.steps;
      makes = f.makes;
      own = f.own ∙ none_due old true none;
      leaves = (f.leaves.0, covers_part (is_quiet new) (touched old f.steps) debt owed c f.leaves.1, f.leaves.2);
      answers = (none, p, found, each_numbers (is_quiet new) debt p quiet.1 (and_parts (contains debt p) true d).0);
      turn = turn_less f.steps old debt owed c f.turn;
      once = λ h. f.once (o h);
    }

-- ---- or the call was stopped

pub quieting_stopped : (old new : State) (owed debt left : List ℕ) (before after : List Step) (p : ℕ) (e : Stopped) → settle_step old ≡ None → first_unquiet old ≡ Some p → Covers debt owed → OwesOnce owed debt → Covers debt (p ∷ [])
    → Finishes old new debt left before after (Err e) → Settles old new owed left before after (Err e)
quieting_stopped old new owed debt left before after p e none found c o d f = record {
  steps = f.steps;
  makes = f.makes;
  own = f.own ∙ none_due old e.done none;
  leaves = covers_part (contains left) (touched old f.steps) debt owed c f.leaves;
  answers = λ full no_turn. rw found (covers_more debt left (p ∷ []) (all_parts (contains left) (touched old f.steps) debt f.leaves).1 d);
  turn = turn_less f.steps old debt owed c f.turn;
  once = λ h. f.once (o h);
}

pub idling_stopped : (old new : State) (owed left : List ℕ) (before after : List Step) (e : Stopped) → settle_step old ≡ None → first_unquiet old ≡ None → Finishes old new owed left before after (Err e) → Settles old new owed left before after (Err e)
idling_stopped old new owed left before after e none quiet f = record { steps = f.steps; makes = f.makes; own = f.own ∙ none_due old e.done none; leaves = f.leaves; turn = f.turn; once = f.once; answers = λ full no_turn. rw quiet refl }

-- before it made a step
pub quieting_unmade : (old : State) (owed left : List ℕ) (log : List Step) (e : Stopped) → settle_step old ≡ None → e.why ≡ why.NoMemory → Covers left owed → OwesOnce owed left → Settles old old owed left log log (Err e)
quieting_unmade old owed left log e none no_memory c o = record {
  steps = [];
  makes = Makes-none old log;
  own = none_due old e.done none;
  leaves = c;
  answers = λ full no_turn. absurd (cc (no_memory, full));
  turn = refl;
  once = o;
}

-- ---- nothing was made, since memory was wanting

pub settles_none : (st : State) (owed : List ℕ) (log : List Step) (e : Stopped) → e ≡ record { why = why.NoMemory; done = false } → Settles st st owed owed log log (Err e)
settles_none st owed log e is = record {
  steps = [];
  makes = Makes-none st log;
  own = rw is refl;
  leaves = covers_itself owed;
  answers = λ full no_turn. absurd (cc (ap (λ (x : Stopped). x.why) is, full));
  turn = refl;
  once = λ h. h;
}
