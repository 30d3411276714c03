-- A step that was asked for, with what goes before it and follows from it.
use Rattle.std.proofs.Common.{◌≡◌, refl, ap, sym, ◌∙◌, subst, ℕ, List, [], ◌∷◌, ◌++◌, Bool, true, false, Result, Ok, Err}
use Rattle.std.specs.Prelude.{Some, OnOk, IfErr}
use Rattle.std.specs.List.{list_all}
use Rattle.jsp_model.specs.declared.state.State.{State}
use Rattle.jsp_model.specs.declared.step.Step.{Step}
use Rattle.jsp_model.specs.declared.house.Stopped.{Stopped}
use Rattle.jsp_model.specs.Lookup.{contains}
use Rattle.jsp_model.specs.Quiet.{is_quiet, are_quiet}
use Rattle.jsp_model.specs.Touches.{touches}
use Rattle.jsp_model.specs.Steps.{is_legal, next}
use Rattle.jsp_model.specs.House.{Covers, OwesOnce, comes_in_turn, come_in_turn, Goes, Leaves, Finishes, bare, touched}
use Rattle.jsp_model.proofs.Joining.{Makes-then}
use Rattle.jsp_house.specs.Owing.{IsDone}
use Rattle.jsp_house.specs.Making.{Performs, MakesOwn, may_come, has_rows, if_done}
use Rattle.jsp_quiet.proofs.Covering.{all_both, all_parts, covered}
use Rattle.std.proofs.lemmas.Bool.{and_from}
use Rattle.jsp_house.proofs.Order.{asked_turn, turn_less}
use Rattle.jsp_house.proofs.Going.{makes_one}
use Rattle.jsp_house.proofs.Coming.{come_legal, come_bare, comes_asked, touches_bare}

-- ---- the step is made

pub own_legal : (st : State) (owed : List ℕ) (x y : Step) → may_come st x ≡ true → IsDone st owed (Some x) → bare y ≡ bare x → has_rows st y ≡ true → is_legal st y ≡ true
own_legal st owed x y may d same rows =
    come_legal st y (come_bare st y x same may) d.nothing_due (ap (are_quiet st) (touches_bare st y x same) ∙ d.to_come) rows

pub made_own : {E : Type 0} (old new : State) (owed left : List ℕ) (before after : List Step) (x y : Step) (r : Result Unit E) → may_come old x ≡ true → bare y ≡ bare x → is_legal old y ≡ true
    → OnOk r (new ≡ next old y) → OnOk r (after ≡ before ++ y ∷ []) → OnOk r (Covers left (touches old y)) → Covers left owed → OwesOnce owed left → OnOk r (MakesOwn old new owed left before after x)
made_own old new owed left before after x y (Ok u) may same legal made log owes stays once = record {
  made = y;
  same = same;
  asked = comes_asked old y (come_bare old y x same may);
  makes = makes_one old new before after y legal made log;
  covers = all_both (contains left) (touches old y) owed owes stays;
  once = once;
}
made_own old new owed left before after x y (Err e) may same legal made log owes stays once = tt

-- ---- the whole call

-- it was stopped before the step
pub performs_none : (old new : State) (owed left : List ℕ) (before after : List Step) (x : Step) (e : Stopped) → e.done ≡ false → Goes old new owed left before after → Performs old new owed left before after x (Err e)
performs_none old new owed left before after x e not_done g = record {
  steps = g.steps;
  makes = g.makes;
  own = g.own ∙ sym (rw not_done refl);
  leaves = g.covers;
  turn = g.turn;
  once = g.once;
}

-- what holds of all that is owed after the step, and of what is touched from then on, holds of what it touches and of what was owed
widen_own : (t : ℕ → Bool) (old new : State) (owed left : List ℕ) (before after : List Step) (x : Step) (m : MakesOwn old new owed left before after x) (more : List Step)
    → list_all t (touched new more ++ left) ≡ true → list_all t (touched old (m.made ∷ more) ++ owed) ≡ true
widen_own t old new owed left before after x m more h =
    let later = all_parts t (touched new more) left h in
    let here = all_parts t (touches old m.made) owed (covered t left (touches old m.made ++ owed) m.covers later.1) in
    let same : touched old (m.made ∷ more) ≡ touches old m.made ++ touched new more = ap (λ (s : State). touches old m.made ++ touched s more) m.makes.view in
    all_both t (touched old (m.made ∷ more)) owed (ap (list_all t) same ∙ all_both t (touches old m.made) (touched new more) here.0 later.0) here.1

leaves_own : (r : Result Unit Stopped) (old mid new : State) (owed d left : List ℕ) (before after : List Step) (x : Step) (m : MakesOwn old mid owed d before after x) (more : List Step)
    → Leaves r new (touched mid more ++ d) left → Leaves r new (touched old (m.made ∷ more) ++ owed) left
leaves_own (Ok u) old mid new owed d left before after x m more h = (h.0, widen_own (is_quiet new) old mid owed d before after x m more h.1, h.2)
leaves_own (Err z) old mid new owed d left before after x m more h = widen_own (contains left) old mid owed d before after x m more h

done_own : (r : Result Unit Stopped) (x : Step) → IfErr r (λ z. z.done ≡ true) → bare x ∷ [] ≡ if_done x r
done_own (Ok u) x h = refl
done_own (Err z) x h = sym (rw h refl)

pub performs_all : (r : Result Unit Stopped) (old mid new : State) (owed d left : List ℕ) (before log after : List Step) (x : Step) → MakesOwn old mid owed d before log x → Finishes mid new d left log after r
    → IfErr r (λ z. z.done ≡ true) → Performs old new owed left before after x r
performs_all r old mid new owed d left before log after x m f done = record {
  steps = m.made ∷ f.steps;
  makes = Makes-then old mid new before log after (m.made ∷ []) f.steps m.makes f.makes;
  own = rw m.asked (ap (λ w. bare m.made ∷ w) f.own ∙ ap (λ w. w ∷ []) m.same ∙ done_own r x done);
  leaves = leaves_own r old mid new owed d left before log x m f.steps f.leaves;
  turn = and_from (comes_in_turn old owed m.made) (come_in_turn (next old m.made) (touches old m.made ++ owed) f.steps) (asked_turn m.made old owed m.asked)
      (turn_less f.steps (next old m.made) d (touches old m.made ++ owed) m.covers (subst (λ (w : State). come_in_turn w d f.steps ≡ true) (sym m.makes.view) f.turn));
  once = λ h. f.once (m.once h);
}
