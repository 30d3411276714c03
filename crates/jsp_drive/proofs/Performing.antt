-- The steps of a closing.
use Rattle.std.proofs.Common.{◌≡◌, ℕ, Bool, true, false, List, [], ◌∷◌, ◌++◌, None, refl, ap, sym, ◌∙◌}
use Rattle.std.specs.Prelude.{if◌then◌else◌}
use Rattle.std.specs.HashMap.{HashMap}
use Rattle.jsp_model.specs.declared.state.State.{State}
use Rattle.jsp_model.specs.declared.step.Step.{Step}
use Rattle.jsp_model.specs.declared.step.Step.TheVariants as step
use Rattle.jsp_model.specs.Lookup.{is_open}
use Rattle.jsp_model.specs.Due.{due}
use Rattle.jsp_model.specs.Runs.{state_after}
use Rattle.jsp_model.specs.Quiet.{are_quiet}
use Rattle.jsp_model.specs.Touches.{touches}
use Rattle.jsp_model.specs.House.{Makes, own_of, touched, shuts}
use Rattle.jsp_model.proofs.Closing.{shut_step}
use Rattle.jsp_model.proofs.Ends.{due_shut}
use Rattle.jsp_drive.specs.declared.acts.Act.TheVariants as act
use Rattle.jsp_drive.specs.Line.{Unheard}
use Rattle.jsp_drive.specs.Lines.{SetsLine, nothing}
use Rattle.jsp_drive.specs.Calls.{MakesAct}

abbrev Lines : Type 0 → Type 0
Lines S = HashMap ℕ Unheard S

due_at : (b : Bool) (s : ℕ) (old new : State) → state_after old (if b then step.Shut s ∷ [] else []) ≡ new → due old ≡ None → due new ≡ None
due_at true s old new view none = ap due (sym view) ∙ due_shut old s none
due_at false s old new view none = ap due (sym view) ∙ none

own_at : (b : Bool) (s : ℕ) → own_of (if b then step.Shut s ∷ [] else []) ≡ (if b then step.Shut s ∷ [] else [])
own_at true s = refl
own_at false s = refl

closed_at : (b : Bool) (s : ℕ) (old new : State) → is_open old s ≡ b → state_after old (if b then step.Shut s ∷ [] else []) ≡ new → is_open new s ≡ false
closed_at true s old new is view = ap (λ (w : State). is_open w s) (sym view) ∙ shut_step old s
closed_at false s old new is view = ap (λ (w : State). is_open w s) (sym view) ∙ is

-- to close touches nothing
shut_touches : (st : State) (s : ℕ) → touches st (step.Shut s) ≡ []
unfolding touches
shut_touches st s = refl

touched_at : (b : Bool) (s : ℕ) (st : State) → touched st (if b then step.Shut s ∷ [] else []) ≡ []
touched_at true s st = ap (λ w. w ++ []) (shut_touches st s)
touched_at false s st = refl

module _ {S : Type 0} where
  -- the session's line is dropped, and it is closed
  pub shut_made : (s : ℕ) (old new : State) (log log' : List Step) (lines lines' : Lines S) → SetsLine s nothing lines lines' → Makes old new log log' (shuts old s)
      → MakesAct (act.Shut s) old new log log' lines lines'
  shut_made s old new log log' lines lines' dropped makes = record {
    steps = shuts old s;
    makes = makes;
    asks = (own_at (is_open old s) s, closed_at (is_open old s) s old new refl makes.view, dropped.here, dropped.others);
    nothing_due = due_at (is_open old s) s old new makes.view;
    quiet = λ steady. ap (are_quiet new) (touched_at (is_open old s) s old);
    settled = tt;
    are_lines = dropped.lines;
  }
