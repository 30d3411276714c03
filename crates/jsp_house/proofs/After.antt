-- What a call does, after steps that nobody asked for.
use Rattle.std.proofs.Common.{◌≡◌, refl, ap, ◌∙◌, ℕ, ◌^◌, List, [], ◌∷◌, ◌++◌, Bool, true, false, ◌&&◌, ◌==◌, nat_le, nat_lt, Result, Ok, Err}
use Rattle.std.specs.Prelude.{IfErr, if◌then◌else◌}
use Rattle.std.specs.List.{list_any, list_all}
use Rattle.jsp_model.specs.declared.state.State.{State}
use Rattle.jsp_model.specs.declared.step.Step.{Step}
use Rattle.jsp_model.specs.declared.house.Input.{Input}
use Rattle.jsp_model.specs.declared.house.Input.TheVariants as input
use Rattle.jsp_model.specs.declared.house.Stopped.{Stopped}
use Rattle.jsp_model.specs.Lookup.{contains}
use Rattle.jsp_model.specs.Quiet.{is_quiet}
use Rattle.jsp_model.specs.House.{Goes, Acts, Leaves, accepts, own_of, step_of, touched, was_done}
use Rattle.jsp_model.proofs.Joining.{own_of-append, Makes-then}
use Rattle.jsp_quiet.proofs.Covering.{all_both, all_parts, covered, touched-append}
use Rattle.jsp_quiet.proofs.Unasked.{LeavesVotes}
use Rattle.jsp_house.specs.Making.{Performs}
use Rattle.jsp_house.proofs.Coming.{goes_leave_votes}
use Rattle.jsp_house.proofs.Order.{turn_after}

-- what holds of all that is touched from then on, and of what is owed, holds of all that was touched and owed
widened : (t : ℕ → Bool) (old mid : State) (owed d : List ℕ) (before log : List Step) (g : Goes old mid owed d before log) (more : List Step)
    → list_all t (touched mid more ++ d) ≡ true → list_all t (touched old (g.steps ++ more) ++ owed) ≡ true
widened t old mid owed d before log g more h =
    let later = all_parts t (touched mid more) d h in
    let earlier = all_parts t (touched old g.steps) owed (covered t d (touched old g.steps ++ owed) g.covers later.1) in
    let same : touched old (g.steps ++ more) ≡ touched old g.steps ++ touched mid more = touched-append old g.steps more ∙ ap (λ (s : State). touched old g.steps ++ touched s more) g.makes.view in
    all_both t (touched old (g.steps ++ more)) owed (ap (list_all t) same ∙ all_both t (touched old g.steps) (touched mid more) earlier.0 later.0) earlier.1

leaves_after : (r : Result Unit Stopped) (old mid new : State) (owed d left : List ℕ) (before log : List Step) (g : Goes old mid owed d before log) (more : List Step)
    → Leaves r new (touched mid more ++ d) left → Leaves r new (touched old (g.steps ++ more) ++ owed) left
leaves_after (Ok u) old mid new owed d left before log g more h = (h.0, widened (is_quiet new) old mid owed d before log g more h.1, h.2)
leaves_after (Err z) old mid new owed d left before log g more h = widened (contains left) old mid owed d before log g more h

-- ---- a step that was asked for

pub performs_after : (r : Result Unit Stopped) (old mid new : State) (owed d left : List ℕ) (before log after : List Step) (x : Step) → Goes old mid owed d before log → Performs mid new d left log after x r
    → Performs old new owed left before after x r
performs_after r old mid new owed d left before log after x g p = record {
  steps = g.steps ++ p.steps;
  makes = Makes-then old mid new before log after g.steps p.steps g.makes p.makes;
  own = own_of-append g.steps p.steps ∙ (ap (λ w. w ++ own_of p.steps) g.own ∙ p.own);
  leaves = leaves_after r old mid new owed d left before log g p.steps p.leaves;
  turn = turn_after g.steps p.steps old mid owed d g.covers g.turn g.makes.view p.turn;
  once = λ h. p.once (g.once h);
}

-- ---- an input

accepts_same : (old new : State) → LeavesVotes old new → (x : Input) → accepts new x ≡ accepts old x
accepts_same old new h (input.Open s) = ap (λ n. nat_le 1 s && nat_lt n s && nat_le s (2 ^ 31)) h.last_session
accepts_same old new h (input.Clock t) = refl
accepts_same old new h (input.Ask s a) = ap (λ w. list_any (λ q. q.number == s) w) h.sessions
accepts_same old new h (input.Fault s id r) = ap (λ w. list_any (λ q. q.number == s) w) h.sessions

pub acts_after : (r : Result Unit Stopped) (old mid new : State) (owed d left : List ℕ) (before log after : List Step) (x : Input) → Goes old mid owed d before log → Acts mid new d left log after x r
    → Acts old new owed left before after x r
acts_after r old mid new owed d left before log after x g a =
    let same = accepts_same old mid (goes_leave_votes old mid owed d before log g) x in
    record {
      steps = g.steps ++ a.steps;
      makes = Makes-then old mid new before log after g.steps a.steps g.makes a.makes;
      own = own_of-append g.steps a.steps ∙ (ap (λ w. w ++ own_of a.steps) g.own ∙ (a.own ∙ ap (λ b. if b && was_done r then step_of x ∷ [] else []) same));
      leaves = leaves_after r old mid new owed d left before log g a.steps a.leaves;
      turn = turn_after g.steps a.steps old mid owed d g.covers g.turn g.makes.view a.turn;
      once = λ h. a.once (g.once h);
    }

-- one that wasn't accepted before them isn't after them
pub passed_after : (r : Result Unit Stopped) (old mid : State) (owed d : List ℕ) (before log : List Step) (x : Input) → Goes old mid owed d before log → (accepts mid x ≡ false → IfErr r (λ e. e.done ≡ false)) → accepts old x ≡ false → IfErr r (λ e. e.done ≡ false)
passed_after r old mid owed d before log x g h passed = h (accepts_same old mid (goes_leave_votes old mid owed d before log g) x ∙ passed)
